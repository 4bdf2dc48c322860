-- The words with a smaller inside, and what is left, make the rank.
use Rattle.std.proofs.Common.{◌≡◌, ◌+◌}
use Rattle.dyck_ranks.specs.Inner.Shorter.{shorter}
use Rattle.dyck_ranks.proofs.ranking.inside_of_rank.Given as goal

abbrev pub invariant-loop-size : goal.invariant-loop-size
invariant-loop-size l = shorter l.n l.size + l.left ≡ l.rank
