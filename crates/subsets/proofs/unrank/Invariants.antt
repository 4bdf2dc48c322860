-- `unrank`: whatever has what is left of the rank makes the object, in front of what is written.
use Rattle.std.proofs.Common.{length}
use Rattle.subsets.proofs.Ranks.{Unranking}
use Rattle.subsets.proofs.unrank.Given as goal

abbrev pub invariant-loop-end : goal.invariant-loop-end
invariant-loop-end l = Unranking (length l.fn.object) l.n l.rank l.rest l.top l.end l.object
