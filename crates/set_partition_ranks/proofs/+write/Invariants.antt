-- `set_partition_ranks::write` calls itself on one model fewer.
use Rattle.set_partition_ranks.proofs.+write.Given as goal

abbrev pub decreases-write : goal.decreases-write
decreases-write g l = l.size.n
