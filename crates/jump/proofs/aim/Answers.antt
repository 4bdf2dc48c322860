-- Of a distance back the difference is there just where a rank is, and of one on the sum.
use Prim.Native.Nat.{◌^◌}
use mir.Syntax.{w64}
use mir.ValLaws.{to_z-of_z}
use Rattle.jump.proofs.Targets.{aimed_back, aimed_on}
use Rattle.jump.proofs.aim.Goals as goal

pub returns-then-d-lt0 : goal.returns-then-d-lt0
returns-then-d-lt0 c =
    let a = c.args in
    let whole = to_z-of_z w64 a.d c.ranges.d in
    let distance = rw whole at c.unsigned_abs-distance.ensures.value in
    aimed_back a.rank (2 ^ 64) a.d _ (rw whole at c.if-d-lt0.true) c.ranges.rank.fits (rw distance at c.checked_sub.ensures)

pub returns-else-d-lt0 : goal.returns-else-d-lt0
returns-else-d-lt0 c =
    let a = c.args in
    let whole = to_z-of_z w64 a.d c.ranges.d in
    let distance = rw whole at c.unsigned_abs-distance.ensures.value in
    aimed_on a.rank (2 ^ 64) a.d _ (rw whole at c.if-d-lt0.false) (rw distance at c.checked_add.ensures)
