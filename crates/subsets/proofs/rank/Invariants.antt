-- `rank`: what is counted so far and the rank of the numbers left make up the rank.
use Rattle.subsets.proofs.Ranks.{Ranking}
use Rattle.subsets.proofs.rank.Given as goal

abbrev pub invariant-loop-i : goal.invariant-loop-i
invariant-loop-i l = Ranking l.n l.object l.before l.i
