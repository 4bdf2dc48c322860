-- The measure of `ranking::rank_of`: the branches.
use Rattle.dyck_ranks.proofs.ranking.+rank_of.Given as goal

abbrev pub decreases-rank_of : goal.decreases-rank_of
decreases-rank_of l = l.n
