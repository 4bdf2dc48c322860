-- A constant table against the list that computes it: one test over the whole table, carried to each entry.
-- Assumes nothing.
use mathlib.Core.Path.{◌≡◌, refl, ap₂}
use mathlib.Core.Bool.{Bool, true, false, ◌&&◌, and-eq-true_iff, false≢true}
use mathlib.Core.List.{List, [], ◌∷◌}
use Prim.Native.Nat.{ℕ}
use lib.Dec.{eqb}
use lib.ListN.{get_or}
use borrow.Author.Tests.{eqb-true}

-- are two lists the same, number by number?
unfoldable pub same : List ℕ → List ℕ → Bool
same [] [] = true
same [] (y ∷ ys) = false
same (x ∷ xs) [] = false
same (x ∷ xs) (y ∷ ys) = eqb x y && same xs ys

equal : (l m : List ℕ) → same l m ≡ true → l ≡ m
unfolding same
equal [] [] e = refl
equal [] (y ∷ ys) e = absurd (false≢true e)
equal (x ∷ xs) [] e = absurd (false≢true e)
equal (x ∷ xs) (y ∷ ys) e =
    let b = (and-eq-true_iff (eqb x y) (same xs ys)).0 e in
    ap₂ (λ (a : ℕ) (l : List ℕ). a ∷ l) (eqb-true x y b.0) (equal xs ys b.1)

-- m is what the table should be; i comes from elsewhere, as j
pub carried : (l m : List ℕ) → same l m ≡ true → {i j : ℕ} → i ≡ j → get_or l i 0 ≡ get_or m j 0
carried l m e at = ap₂ (λ (t : List ℕ) (i : ℕ). get_or t i 0) (equal l m e) at
