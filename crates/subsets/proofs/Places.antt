-- Where a subset stands, by its last number; the first and the last of them.
-- Assumes nothing.
use mathlib.Core.Path.{◌≡◌, refl, ◌∙◌, ap, subst}
use mathlib.Core.List.{[], ◌∷◌, ◌++◌}
use Prim.Native.Nat.{ℕ, zero, suc, ◌+◌, ◌≤◌, ◌<◌}
use native.Mathlib.Nat.{le_refl, le_of_lt, zero-add, suc-add}
use native.Mathlib.Numerals.{one-add}
use native.Mathlib.Omega.{arith}
use Rattle.basics.specs.Sums.{range, sum_over}
use Rattle.basics.proofs.Ranges.{in_range, range_snoc, take_range}
use Rattle.numbers.specs.Numbers.{choose}
use Rattle.numbers.proofs.Laws.{choose-sum, choose-none}
use Rattle.listings.specs.Bytes.{Bytes}
use Rattle.listings.specs.Places.{At, Follows, First, Last}
use Rattle.listings.proofs.ChoicePlaces.{at_choice, last_choice, inside_choice, seam_choice}
use Rattle.listings.proofs.PlaceRules.{at_range, last-range, follows_range}
use Rattle.subsets.specs.Listing.{subsets}
use Rattle.subsets.proofs.Theorem.{counted}

-- a choice is the last number, m + 1

abbrev put : ℕ → Bytes → Bytes
put m x = x ++ (suc m ∷ [])

module _ (n k m : ℕ) where
  -- behind all those out of the numbers below it
  pub at_number : (r : ℕ) {x : Bytes} → m < n → At (subsets m k) x r → At (subsets n (suc k)) (x ++ (suc m ∷ [])) (choose m (suc k) + r)
  unfolding subsets
  at_number r {x} h here =
      subst (λ s. At (subsets n (suc k)) (x ++ (suc m ∷ [])) (s + r)) (ap (λ l. sum_over l (λ i. choose i k)) (take_range 0 n m (le_of_lt h)) ∙ choose-sum m k)
      (at_choice (range 0 n) (λ i. subsets i k) put (λ i. counted i k) m r (rw zero-add at (at_range 0 n m h)) here)

  pub last-number : {x : Bytes} → n ≡ suc m → Last (subsets m k) x → Last (subsets n (suc k)) (x ++ (suc m ∷ []))
  unfolding subsets
  last-number e s = last_choice (λ i. subsets i k) put (last-range 0 n m (omega arith) (omega arith)) s

  -- neighbours with the same last number, and at the seam of m + 1 and m + 2

  pub inside-number : {x y : Bytes} → m < n → Follows (subsets m k) x y → Follows (subsets n (suc k)) (x ++ (suc m ∷ [])) (y ++ (suc m ∷ []))
  unfolding subsets
  inside-number h s = inside_choice (λ i. subsets i k) put (in_range 0 n (omega arith) (omega arith)) s

  pub seam_number : {x y : Bytes} → suc m < n → Last (subsets m k) x → First (subsets (suc m) k) y → Follows (subsets n (suc k)) (x ++ (suc m ∷ [])) (y ++ (suc (suc m) ∷ []))
  unfolding subsets
  seam_number h end start = seam_choice (λ i. subsets i k) put (follows_range 0 n m (omega arith) (omega arith)) end start

-- the first: 1, 2, .., k
pub lowest_first : (n k : ℕ) → k ≤ n → First (subsets n k) (range 1 k)
unfolding subsets range
lowest_first n zero h = refl
lowest_first n (suc k) h =
    rw (range_snoc 1 k, one-add)
    (subst (At (subsets n (suc k)) (range 1 k ++ (suc k ∷ []))) (omega (arith, choose-none k (suc k) (omega arith))) (at_number n k k 0 h (lowest_first k k (le_refl k))))

-- the last: a, a + 1, .., n
pub highest_last : (n a k : ℕ) → 0 < a → a + k ≡ n + 1 → Last (subsets n k) (range a k)
unfolding subsets range
highest_last n zero k pos e = absurd (omega arith)
highest_last n (suc b) zero pos e = record { place = 0; here = refl; final = refl }
highest_last n (suc b) (suc k) pos e = rw (range_snoc (suc b) k, suc-add) (last-number n k (b + k) (omega arith) (highest_last (b + k) (suc b) k (omega arith) (omega arith)))
