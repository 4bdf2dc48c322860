-- The measure is the length.
use Rattle.std.proofs.Common.{length}
use Rattle.derangement_ranks.proofs.+rank_of.Given as goal

abbrev pub decreases-rank_of : goal.decreases-rank_of
decreases-rank_of l = length l.object.now
