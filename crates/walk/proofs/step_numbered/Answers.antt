-- The call tells, and from number 0 a step back that moved is undone.
use mathlib.Core.Path.{refl, ◌∙◌, ap}
use Rattle.listings.specs.Calls.{Said}
use Rattle.walk.proofs.Told.{not-stepped, not_end, one_on_lem, none_off, one_off, stays_so, goes_so, numberless_so, back_undone}
use Rattle.walk.proofs.step_numbered.Goals as goal

pub returns-in-Ok-End : goal.returns-in-Ok-End
returns-in-Ok-End c =
    let ended = rw c.in-Ok-End.field-0-is at c.in-Ok-End.ensures in
    stays_so _ _ _ _ _ c.requires.number_bound c.requires.lists_bound not_end ended

pub returns-in-Err : goal.returns-in-Err
returns-in-Err c = stays_so _ _ _ _ _ c.requires.number_bound c.requires.lists_bound not-stepped c.in-Err.ensures

pub returns-in_default : goal.returns-in_default
returns-in_default c =
    let moved = rw c.in-Ok-Moved.field-0-is at c.in-Ok-Moved.ensures in
    goes_so _ _ _ _ _ c.requires.number_bound c.requires.lists_bound refl (one_on_lem _ c.in_default.is) moved

pub returns-then-number-eq0 : goal.returns-then-number-eq0
returns-then-number-eq0 c =
    let moved = rw c.in-Ok-Moved.field-0-is at c.in-Ok-Moved.ensures in
    rw (ap (λ (s : Said). s.1) (c.call-then-number-eq0.ensures ∙ back_undone _ _ _ c.in-Back.is refl moved)) (numberless_so _ _ _ _ _ c.requires.number_bound c.requires.lists_bound refl (none_off c.in-Back.is c.if-number-eq0.true) moved)

pub returns : goal.returns
returns c =
    let moved = rw c.in-Ok-Moved.field-0-is at c.in-Ok-Moved.ensures in
    goes_so _ _ _ _ _ c.requires.number_bound c.requires.lists_bound refl (one_off _ c.in-Back.is c.if-number-eq0.false) moved
