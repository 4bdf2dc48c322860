-- No place passed holds its own number: what is left to ask is asked of the rest.
use Rattle.std.proofs.Common.{◌≡◌, ◌+◌, drop}
use Rattle.derangements.specs.Objects.{has_fixed_point}
use Rattle.derangements.proofs.has_fixed_point.Given as goal

abbrev pub invariant-loop-i : goal.invariant-loop-i
invariant-loop-i l = has_fixed_point 1 l.object ≡ has_fixed_point (l.i + 1) (drop l.i l.object)
