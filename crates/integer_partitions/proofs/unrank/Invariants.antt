-- `unrank`: whatever has what is left of the rank makes the object, in front of what is written. A turn writes a part or raises the floor.
use Rattle.std.proofs.Common.{length, ◌+◌, ◌-◌}
use Rattle.integer_partitions.proofs.Ranks.{Unranking}
use Rattle.integer_partitions.proofs.unrank.Given as goal

abbrev pub invariant-loop-rest : goal.invariant-loop-rest
invariant-loop-rest l = Unranking (length l.fn.object) l.floor l.n l.rank l.rest l.least l.left l.k l.object

abbrev pub decreases-loop-rest : goal.decreases-loop-rest
decreases-loop-rest l = l.k + (l.n + 1 - l.least)
