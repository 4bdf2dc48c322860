-- The step's answer as a code, and the number through the lent one.
use Rattle.arrangements.proofs.Telling.{telling_step}
use Rattle.families.proofs.CodeLaws.{stepped_code}
use Rattle.arrangements.proofs.walk_step.Goals as goal

pub returns : goal.returns
returns c = telling_step _ _ _ _ _ c.step_lent-after.ensures (stepped_code _ c.stepped.ensures) c.plain.ensures
