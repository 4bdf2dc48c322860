-- The measure of `stepping::step`: the length of the part.
use Rattle.std.proofs.Common.{length}
use Rattle.dyck_words.proofs.stepping.+step.Given as goal

abbrev pub decreases-step : goal.decreases-step
decreases-step l = length l.object.now
