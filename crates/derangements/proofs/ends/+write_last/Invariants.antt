-- The measure is the length.
use Rattle.std.proofs.Common.{length}
use Rattle.derangements.proofs.ends.+write_last.Given as goal

abbrev pub decreases-write_last : goal.decreases-write_last
decreases-write_last l = length l.object.now
