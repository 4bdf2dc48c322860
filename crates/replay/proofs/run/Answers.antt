-- A turn stores a call's code and the bytes after it; past the last call the record is the whole.
use mathlib.Core.Path.{◌≡◌, sym, ◌∙◌, ap}
use Prim.Native.Nat.{ℕ, ◌*◌}
use native.Mathlib.Nat.{suc-mul}
use native.Mathlib.Numerals.{add-one}
use native.Mathlib.Omega.{arith}
use lib.ListN.{length}
use Rattle.replay.proofs.Walk.{turn, over}
use Rattle.replay.proofs.run.Goals as goal

pub loop-i-preserved : goal.loop-i-preserved
loop-i-preserved c =
    let size : length c.one_call.new.object ≡ length c.args.object.now = omega arith in
    record {
      place = rw (add-one, suc-mul) (omega (arith, size, c.loop-i.invariant.place));
      standing = turn _ _ _ _ _ c.requires.ranked _ _ _ c.loop-i.invariant.standing c.loop-i-test.true (omega arith) c.one_call.ensures c.keep.ensures;
    }

pub returns : goal.returns
returns c =
    let all : c.loop-i.i ≡ length c.args.calls.now = omega arith in
    over _ _ _ _ _ c.requires.ranked c.loop-i.invariant.standing all (omega arith) (c.loop-i.invariant.place ∙ ap (λ (n : ℕ). n * length c.args.object.now) all ∙ sym (c.loop-i.auto.trail ∙ c.requires.room))
