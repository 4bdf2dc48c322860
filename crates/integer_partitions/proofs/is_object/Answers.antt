-- `is_object`: the part read is the last of those that are left, and the rest of the test goes on over it, or fails.
use Rattle.std.proofs.Common.{arith}
use Rattle.std.proofs.lemmas.Grind.{common_steps}
use Rattle.integer_partitions.proofs.Testing.{test_steps}
use Rattle.integer_partitions.proofs.is_object.Goals as goal

pub loop-p-preserved : goal.loop-p-preserved
loop-p-preserved c =
    let e = c.in-Some.ensures.steps in
    grind (arith, common_steps, test_steps)

pub returns-then-p-least : goal.returns-then-p-least
returns-then-p-least c =
    let e = c.in-Some.ensures.steps in
    grind (arith, common_steps, test_steps)
