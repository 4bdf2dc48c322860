-- `is_object`: the whole test is the test of what is still to be read, after the last number read.
use Rattle.std.proofs.Common.{◌≡◌, drop}
use Rattle.subsets.specs.Objects.{climbs, is_subset}
use Rattle.subsets.proofs.is_object.Given as goal

abbrev pub invariant-loop-b : goal.invariant-loop-b
invariant-loop-b l = is_subset l.n l.k l.object ≡ climbs l.last l.n (drop l.b-index l.object)
