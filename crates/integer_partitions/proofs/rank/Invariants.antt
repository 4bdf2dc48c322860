-- `rank`: what is counted so far and the rank of the parts left make up the rank.
use Rattle.integer_partitions.proofs.Ranks.{Ranking}
use Rattle.integer_partitions.proofs.rank.Given as goal

abbrev pub invariant-loop-i : goal.invariant-loop-i
invariant-loop-i l = Ranking l.fn.floor l.fn.n l.object l.earlier l.least l.left l.i
