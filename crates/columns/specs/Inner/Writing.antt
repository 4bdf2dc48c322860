-- What a writer into a lent buffer promises, and what a reader's answer stands for.
-- Assumes nothing.
use Rattle.std.specs.Prelude.{◌≡◌, ◌++◌, ◌+◌, length, take, Option as CodeOption, None, Some}
use Rattle.std.proofs.Math.Option.{Option, none, some}
use Rattle.listings.specs.Bytes.{Bytes}
use Rattle.columns.specs.declared.Text.{Text}

-- from the text d to the text e: s was added, in the same buffer
pub record Wrote (d e : Text) (s : Bytes) : Type 0 where
  pub till : e.len ≡ d.len + length s
  pub bytes : take e.len e.buffer.now ≡ take d.len d.buffer.now ++ s
  pub room : length e.buffer.now ≡ length d.buffer.now
  pub lent : e.buffer.ghost_name ≡ d.buffer.ghost_name

-- what code answers: a value, or nothing where what it read is bad
unfoldable pub value_as : {A : Type 0} → CodeOption A → Option A
value_as (Some v) = some v
value_as None = none
