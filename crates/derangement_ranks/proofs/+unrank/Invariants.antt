-- The measure is the length.
use Rattle.std.proofs.Common.{length}
use Rattle.derangement_ranks.proofs.+unrank.Given as goal

abbrev pub decreases-unrank : goal.decreases-unrank
decreases-unrank l = length l.object.now
