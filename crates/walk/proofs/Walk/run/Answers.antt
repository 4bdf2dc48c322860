-- A step adds its code; past the last step, or the room for answers, nothing is left.
use mathlib.Core.Path.{◌≡◌, ◌∙◌}
use mathlib.Core.List.{map}
use Prim.Native.Nat.{◌≤◌}
use native.Mathlib.Decide.{dec_lt}
use native.Mathlib.Numerals.{add-one}
use native.Mathlib.Omega.{arith}
use lib.ListN.{length}
use Rattle.families.specs.Table.{lent}
use Rattle.walk.proofs.Runs.{one_more, all_taken, room_taken}
use Rattle.families.proofs.CodeLaws.{stepped_code}
use Rattle.walk.proofs.Walk.run.Goals as goal

pub loop-i-preserved : goal.loop-i-preserved
loop-i-preserved c =
    let went = rw c.way_of.ensures at c.step-stride.ensures in
    rw (add-one c.loop-i.i) (one_more _ c.loop-i.walk c.args.on.now c.loop-i.answers c.loop-i.i (omega arith) (omega arith) went (stepped_code _ c.stepped.ensures) ∙ c.loop-i.invariant)

pub returns : goal.returns
returns c =
    elim (dec_lt c.loop-i.i (length c.args.on.now)) [
      | yes h ↦ room_taken _ c.loop-i.walk c.args.on.now c.loop-i.answers c.loop-i.i (omega arith) ∙ c.loop-i.invariant
      | no h ↦ all_taken _ c.loop-i.walk c.args.on.now c.loop-i.answers c.loop-i.i (omega arith) ∙ c.loop-i.invariant
    ]
