-- The objects left to meet fall, and the buffer keeps its length.
use Rattle.std.proofs.Common.{length, ◌-◌, ◌≡◌}
use Rattle.test_calls.proofs.walks.walk.Given as goal

abbrev pub invariant-loop-met : goal.invariant-loop-met
invariant-loop-met g l = length l.object ≡ length l.initial.object

abbrev pub decreases-loop-met : goal.decreases-loop-met
decreases-loop-met g l = l.route.limit - l.met
