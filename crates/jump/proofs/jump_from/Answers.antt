-- Where a rank is aimed at, UNRANK's answer tells the jump's.
use mathlib.Core.Path.{refl}
use mir.Syntax.{w64}
use mir.ValLaws.{to_z-of_z}
use Rattle.jump.proofs.Landing.{ended, landed}
use Rattle.jump.proofs.jump_from.Goals as goal

pub returns-in-Ok : goal.returns-in-Ok
returns-in-Ok c =
    let aimed = rw (to_z-of_z w64 c.args.d c.ranges.d) at c.in-Some.ensures in
    landed _ _ _ _ c.requires.object_value c.requires.object_value_2 aimed refl c.in-Ok.ensures

pub returns-in-Err : goal.returns-in-Err
returns-in-Err c =
    let aimed = rw (to_z-of_z w64 c.args.d c.ranges.d) at c.in-Some.ensures in
    ended _ _ _ _ c.requires.object_value c.requires.object_value_2 aimed refl c.in-Err.ensures
