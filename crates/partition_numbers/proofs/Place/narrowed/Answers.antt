-- `partition_numbers::Place::narrowed` meets its contract: every column from e on has the same number at e.
use Rattle.std.proofs.Common.{ℕ, ◌+◌, ap, arith}
use native.Mathlib.Decide.{dec_le}
use Rattle.numbers.specs.Numbers.{partitions_of}
use Rattle.partition_numbers.proofs.Rules.{same_number}
use Rattle.partition_numbers.proofs.Place.narrowed.Goals as goal

pub returns-clause-number : goal.returns-clause-number
returns-clause-number c =
    let p = c.args.self in
    elim (dec_le p.e p.column) [
      | yes h ↦ same_number p.e c.min.result p.column (omega arith) h
      | no h ↦ ap (λ (i : ℕ). partitions_of (p.e + i) i) (omega arith)
    ]
