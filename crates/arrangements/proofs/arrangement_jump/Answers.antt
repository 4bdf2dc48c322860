-- The code of what `jump::jump` answers, and the bytes that it leaves.
use mir.Syntax.{w64}
use mir.ValLaws.{to_z-of_z}
use Rattle.arrangements.proofs.Telling.{telling_jump}
use Rattle.jump.proofs.CodeLaws.{jump_code}
use Rattle.arrangements.proofs.arrangement_jump.Goals as goal

pub returns : goal.returns
returns c = telling_jump _ _ _ _ (rw (to_z-of_z w64 c.args.d c.ranges.d) at c.jump.ensures) (jump_code _ c.code.ensures) c.plain.ensures
