-- The test `same` says whether two byte strings are equal.
-- Assumes nothing.
use mathlib.Core.Path.{◌≡◌, refl, sym, ◌∙◌, ap₂}
use mathlib.Core.Bool.{true, false, ◌&&◌, false≢true, and_assoc, and-true as and-with-true}
use mathlib.Core.List.{[], ◌∷◌, ◌++◌}
use Prim.Native.Nat.{ℕ}
use native.Mathlib.Omega.{arith}
use lib.Dec.{eqb}
use lib.ListN.{length}
use lib.Pointwise.{pointwise}
use borrow.Author.Tests.{eqb-true, eq-eqb}
use Rattle.listings.specs.Bytes.{Bytes, same}
use Rattle.basics.proofs.Bools.{and-true, and_makes}

pub same_refl : (x : Bytes) → same x x ≡ true
unfolding same
same_refl [] = refl
same_refl (a ∷ x) = and_makes (eq-eqb a a refl) (same_refl x)

pub same-eq : (x y : Bytes) → same x y ≡ true → x ≡ y
unfolding same
same-eq [] [] e = refl
same-eq [] (b ∷ y) e = absurd (false≢true e)
same-eq (a ∷ x) [] e = absurd (false≢true e)
same-eq (a ∷ x) (b ∷ y) e =
    let both = and-true (eqb a b) (same x y) e in
    ap₂ {C = Bytes} (λ c z. c ∷ z) (eqb-true a b both.0) (same-eq x y both.1)

pub eq-same : {x y : Bytes} → x ≡ y → same x y ≡ true
eq-same {y} q = rw q (same_refl y)

pub same_ne : (x y : Bytes) → same x y ≡ false → x ≡ y → ⊥
same_ne x y e q = false≢true (sym e ∙ eq-same q)

-- the library's test of two slices
pub same_is_pointwise : (x y : Bytes) → same x y ≡ pointwise eqb x y
unfolding same
same_is_pointwise [] [] = refl
same_is_pointwise [] (b ∷ y) = refl
same_is_pointwise (a ∷ x) [] = refl
same_is_pointwise (a ∷ x) (b ∷ y) = rw (same_is_pointwise x y)

-- one more byte at the end of both
pub same-snoc : (x y : Bytes) (a b : ℕ) → length x ≡ length y → same (x ++ (a ∷ [])) (y ++ (b ∷ [])) ≡ (same x y && eqb a b)
unfolding same
same-snoc [] [] a b h = and-with-true (eqb a b)
same-snoc [] (d ∷ y) a b h = absurd (omega arith)
same-snoc (c ∷ x) [] a b h = absurd (omega arith)
same-snoc (c ∷ x) (d ∷ y) a b h = rw (same-snoc x y a b (omega arith)) (sym (and_assoc (eqb c d) (same x y) (eqb a b)))
