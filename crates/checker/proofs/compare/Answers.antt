-- Each entry is compared with the object at its place; the ways out are the first wrong place, or none.
use mathlib.Core.Path.{◌≡◌, refl, sym, ◌∙◌, ap, ap₂}
use mathlib.Core.Bool.{Bool, true, false}
use mathlib.Core.List.{List}
use mathlib.Core.Option.{some}
use Prim.Native.Nat.{ℕ, suc, ◌+◌, ◌*◌, ◌≤◌, ◌<◌}
use native.Mathlib.Nat.{zero-mul, suc-mul}
use native.Mathlib.Numerals.{add-one}
use native.Mathlib.Omega.{arith}
use lib.ListN.{length, take, drop, length-drop}
use lib.Seq.{drop-drop}
use Rattle.basics.proofs.Products.{turn_within}
use Rattle.listings.specs.Bytes.{Bytes, same}
use Rattle.families.proofs.Going.{moves_on, stops}
use Rattle.checker.specs.Checking.{cut_into}
use Rattle.checker.proofs.FirstWrong.{AgreeTo}
use Rattle.checker.specs.Inner.Differences.{first_wrong}
use Rattle.checker.proofs.Comparing.{Standing, start, differs, agrees, on, ended, shorter}
use Rattle.checker.proofs.compare.Goals as goal

-- the entry at a place, in front of what is left behind it
module _ (n p : ℕ) (bytes rest object : Bytes) (left : rest ≡ drop (p * n) bytes) (long : length object ≡ n) where
  fits : {m : ℕ} → length bytes ≡ m * n → p < m → length object ≤ length rest
  fits {m} size below = rw left (omega (arith, length-drop (p * n) bytes, turn_within p m n below))

  read : {entry : Bytes} {b : _} → entry ≡ take (length object) rest → b ≡ same entry object → b ≡ same (take n (drop (p * n) bytes)) object
  read {entry} front told = told ∙ ap (λ (x : Bytes). same x object) (front ∙ ap₂ (λ (k : ℕ) (r : Bytes). take k r) long left)

  -- it is the object, or it isn't
  module _ {l : List Bytes} {m : ℕ} {entry : Bytes} {b : Bool} (standing : Standing l m n bytes p object) (below : p < m) (front : entry ≡ take (length object) rest) (told : b ≡ same entry object) where
    matched : b ≡ true → AgreeTo l (cut_into m n bytes) (suc p)
    matched same_here = agrees _ _ _ _ standing below (sym (read front told) ∙ same_here)

    unmatched : b ≡ false → some p ≡ first_wrong l (cut_into m n bytes)
    unmatched other_here = sym (differs _ _ _ _ standing below (sym (read front told) ∙ other_here))

  behind : {r : Bytes} → r ≡ drop (length object) rest → r ≡ drop ((p + 1) * n) bytes
  behind back =
      back ∙ ap₂ (λ (k : ℕ) (t : Bytes). drop k t) long left ∙ drop-drop n (p * n) bytes ∙ ap (λ (k : ℕ). drop k bytes) {x = p * n + n} {y = (p + 1) * n} (rw (add-one, suc-mul) refl)

pub loop-place-init : goal.loop-place-init
loop-place-init c = record { left = ap (λ (k : ℕ). drop k c.args.bytes.now) (sym (zero-mul (length c.args.object.now))); standing = start _ _ _ _ c.requires.first }

pub split_at-requires : goal.split_at-requires
split_at-requires c = fits _ _ _ _ _ c.loop-place.invariant.left c.loop-place.auto.object c.requires.bytes_len c.loop-place-test.true

pub returns-then-not-same : goal.returns-then-not-same
returns-then-not-same c =
    unmatched _ _ _ _ _ c.loop-place.invariant.left c.loop-place.auto.object c.loop-place.invariant.standing c.loop-place-test.true c.split_at.ensures.front c.same.ensures c.if-not-same.true

pub loop-place-preserved : goal.loop-place-preserved
loop-place-preserved c =
    let right = matched _ _ _ _ _ c.loop-place.invariant.left c.loop-place.auto.object c.loop-place.invariant.standing c.loop-place-test.true c.split_at.ensures.front c.same.ensures c.if-not-same.false in
    let there = moves_on _ _ _ c.loop-place.invariant.standing.here (rw c.in-Ok-Moved.field-0-is at c.in-Ok-Moved.ensures) in
    record {
      left = behind _ _ _ _ _ c.loop-place.invariant.left c.loop-place.auto.object c.split_at.ensures.back;
      standing = rw add-one (on _ _ _ _ right there);
    }

pub returns-in-Ok-End : goal.returns-in-Ok-End
returns-in-Ok-End c =
    let right = matched _ _ _ _ _ c.loop-place.invariant.left c.loop-place.auto.object c.loop-place.invariant.standing c.loop-place-test.true c.split_at.ensures.front c.same.ensures c.if-not-same.false in
    let last = stops _ _ _ c.loop-place.invariant.standing.here (λ e. cc) (rw c.in-Ok-End.field-0-is at c.in-Ok-End.ensures) in
    c.behind_last.ensures ∙ rw add-one (ended _ _ _ _ right last (omega arith))

pub returns-in-Err : goal.returns-in-Err
returns-in-Err c =
    let right = matched _ _ _ _ _ c.loop-place.invariant.left c.loop-place.auto.object c.loop-place.invariant.standing c.loop-place-test.true c.split_at.ensures.front c.same.ensures c.if-not-same.false in
    let last = stops _ _ _ c.loop-place.invariant.standing.here (λ e. cc) c.in-Err.ensures in
    c.behind_last-in-Err.ensures ∙ rw add-one (ended _ _ _ _ right last (omega arith))

pub returns : goal.returns
returns c =
    let e : c.loop-place.place ≡ c.args.entries = omega arith in
    ap some (sym e) ∙ sym (shorter _ _ _ _ c.loop-place.invariant.standing e)
