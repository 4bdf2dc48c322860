-- `set_partition_ranks::rank_of` calls itself on one model fewer.
use Rattle.set_partition_ranks.proofs.+rank_of.Given as goal

abbrev pub decreases-rank_of : goal.decreases-rank_of
decreases-rank_of g l = l.size.n
