-- What the code's answers stand for among the grammar's options. Contracts of private functions and of `parse` only.
-- Assumes nothing.
use Rattle.std.specs.Prelude.{List, ℕ, drop, Option as CodeOption, None, Some}
use Rattle.std.proofs.Math.Option.{Option, none, some}
use Rattle.listings.specs.Bytes.{Bytes}
use Rattle.grammar.specs.declared.Slip.{Slip as CodeSlip}
use Rattle.grammar.specs.declared.lines.FirstLine.{FirstLine}
use Rattle.grammar.specs.Grammar.{Slip, fields, head_of, slip_with}

-- the slip by kind, n and k, where these are well formed, by the number that the first object gets and by what stands behind the first line
unfoldable pub slip_at : ℕ → Option (List ℕ) → Bytes → Option Slip
slip_at s none x = none
slip_at s (some vs) x = slip_with (head_of s vs) x

-- where the first line ends as a slip's may, kind, n and k are its first three fields
unfoldable pub opened_as : CodeOption FirstLine → Bytes → Option Slip
opened_as (Some l) x = slip_at l.start (fields 3 x) (drop l.end x)
opened_as None x = none

-- a slip whose counts stand in a buffer
unfoldable pub parsed_as : CodeOption CodeSlip → Option Slip
parsed_as (Some s) = some (record { head = s.head; counts = s.counts.now })
parsed_as None = none
