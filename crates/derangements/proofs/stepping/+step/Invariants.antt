-- The measure is the length.
use Rattle.std.proofs.Common.{length}
use Rattle.derangements.proofs.stepping.+step.Given as goal

abbrev pub decreases-step : goal.decreases-step
decreases-step l = length l.object.now
