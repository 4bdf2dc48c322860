-- The step is made on a copy of the bytes, which is stored whatever was answered.
use mathlib.Core.Path.{◌≡◌}
use native.Mathlib.Omega.{arith}
use lib.ListN.{length}
use Rattle.basics.specs.Limits.{longest_object}
use Rattle.walk.proofs.Arrays.{handed_back, front_stepped}
use borrow.Author.Rules.{rules}
use Rattle.walk.proofs.Walk.step.Goals as goal

pub returns-then-size : goal.returns-then-size
returns-then-size c = handed_back _ _ _ (c.missed_beyond.ensures _ _ _ c.if-size.true)

pub returns : goal.returns
returns c =
    let w = c.args.self in
    let h : length w.bytes ≡ longest_object = search rules in
    front_stepped _ _ w (omega (arith, h, c.if-size.false)) c.step_lent-after.ensures
