-- What an answer about a count tells, and which answer a count has: both directions of `fits`.
-- Assumes nothing.
use mathlib.Core.Path.{◌≡◌, refl, sym, ◌∙◌}
use mathlib.Core.Bool.{Bool, true, false, cond}
use mathlib.Core.Logic.{◌⊎◌, inl, inr}
use Prim.Native.Nat.{ℕ, ◌≤◌, ◌<◌, ◌^◌}
use native.Mathlib.Omega.{arith}
use lib.Dec.{ltb}
use borrow.Author.Tests.{lt-ltb, le-ltb, ltb-true, ltb-false}
use Rattle.std.specs.Prelude.{Option, Some, None, Result, Ok, Err, SomeIff, unwrap_or}
use Rattle.std.specs.Option.{ok_or}
use Rattle.counting.specs.declared.CountError.{CountError}
use Rattle.counting.specs.declared.CountError.TheVariants.{TooLarge, Outside}
use Rattle.counting.specs.Answers.{fits, if_fits}

pub fits_small : (v : ℕ) → v < 2 ^ 64 → fits v ≡ Ok v
unfolding fits
fits_small v h = rw (lt-ltb v (2 ^ 64) h)

pub fits_large : (v : ℕ) → 2 ^ 64 ≤ v → fits v ≡ Err TooLarge
unfolding fits
fits_large v h = rw (le-ltb v (2 ^ 64) h)

-- the plain number

pub if_small : {v : ℕ} → v < 2 ^ 64 → if_fits v ≡ v
unfolding if_fits
if_small {v} h = rw (lt-ltb v (2 ^ 64) h)

pub if_large : {v : ℕ} → 2 ^ 64 ≤ v → if_fits v ≡ 0
unfolding if_fits
if_large {v} h = rw (le-ltb v (2 ^ 64) h)

picked : (t : Bool) (v x : ℕ) → cond t (Ok v) (Err TooLarge) ≡ Ok x → (t ≡ true) × (v ≡ x)
picked true v x e = (refl, cc)
picked false v x e = absurd (cc)

not_picked : (t : Bool) (v : ℕ) {e : CountError} → cond t (Ok v) (Err TooLarge) ≡ Err e → t ≡ false
not_picked true v e = absurd (cc)
not_picked false v e = refl

-- an exact answer is the count, which is below 2^64
pub exactly : (v x : ℕ) → fits v ≡ Ok x → v ≡ x
unfolding fits
exactly v x e = (picked (ltb v (2 ^ 64)) v x e).1

pub exactly_below : (v x : ℕ) → fits v ≡ Ok x → v < 2 ^ 64
unfolding fits
exactly_below v x e = ltb-true v (2 ^ 64) (picked (ltb v (2 ^ 64)) v x e).0

pub too_large : (v : ℕ) → fits v ≡ Err TooLarge → 2 ^ 64 ≤ v
unfolding fits
too_large v e = ltb-false v (2 ^ 64) (not_picked (ltb v (2 ^ 64)) v e)

-- a count is one of the two
pub answered : (v : ℕ) → ((v < 2 ^ 64) × (fits v ≡ Ok v)) ⊎ ((2 ^ 64 ≤ v) × (fits v ≡ Err TooLarge))
answered v = go (ltb v (2 ^ 64)) refl
  where
    go : (t : Bool) → ltb v (2 ^ 64) ≡ t → ((v < 2 ^ 64) × (fits v ≡ Ok v)) ⊎ ((2 ^ 64 ≤ v) × (fits v ≡ Err TooLarge))
    go true e = let h = ltb-true v (2 ^ 64) e in inl (h, fits_small v h)
    go false e = let h = ltb-false v (2 ^ 64) e in inr (h, fits_large v h)

-- an answer that is not exact tells that the count is too large
pub not_exact : (v : ℕ) {r : Result ℕ CountError} {e : CountError} → r ≡ fits v → r ≡ Err e → 2 ^ 64 ≤ v
unfolding fits
not_exact v is err = ltb-false v (2 ^ 64) (not_picked (ltb v (2 ^ 64)) v (sym is ∙ err))

-- a number that is there where it is below 2^64 makes the answer
pub fits_or : (v : ℕ) (r : Option ℕ) → SomeIff r (v < 2 ^ 64) v → ok_or r TooLarge ≡ fits v
fits_or v None large = sym (fits_large v (omega arith))
fits_or v (Some x) h = rw h.1 (sym (fits_small v h.0))

-- and the plain number
pub fits_or_none : (v : ℕ) (r : Option ℕ) → SomeIff r (v < 2 ^ 64) v → unwrap_or r 0 ≡ if_fits v
fits_or_none v None large = sym (if_large (omega arith))
fits_or_none v (Some x) h = h.1 ∙ sym (if_small h.0)

pub within_in : (t : Bool) (a : Result ℕ CountError) → t ≡ true → cond t a (Err Outside) ≡ a
within_in t a e = rw e
