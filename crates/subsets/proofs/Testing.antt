-- The test of a subset, done number by number from the first on.
-- Assumes nothing.
use mathlib.Core.Path.{◌≡◌}
use mathlib.Core.Bool.{true, false}
use Prim.Native.Nat.{ℕ, suc, ◌+◌, ◌≤◌, ◌<◌}
use native.Mathlib.Numerals.{add-one}
use native.Mathlib.Omega.{arith}
use lib.ListN.{length, drop, get_or, drop_of_length-le}
use lib.Seq.{drop-cons}
use borrow.Author.Tests.{lt-ltb, le-leb, eq-eqb}
use Rattle.listings.specs.Bytes.{Bytes}
use Rattle.basics.proofs.Bools.{fails}
use Rattle.subsets.specs.Objects.{climbs, is_subset}
use Rattle.subsets.proofs.Facts.{climbs-cases, subset_cases}

-- the length

pub other_length : (n k : ℕ) (x : Bytes) → (length x ≡ k → ⊥) → is_subset n k x ≡ false
other_length n k x h = fails (is_subset n k x) (λ o. h (subset_cases n k x o).0)

pub right_length : (n k : ℕ) (x : Bytes) → length x ≡ k → is_subset n k x ≡ climbs 0 n x
unfolding is_subset
right_length n k x e = rw (eq-eqb (length x) k e)

-- the numbers, with those up to place i read and a the last of them

module _ (a n i : ℕ) (x : Bytes) where
  first : i < length x → climbs a n (drop i x) ≡ true → (a < get_or x i 0) × (get_or x i 0 ≤ n)
  first h up = let (low, high, later) = climbs-cases a n _ (drop (suc i) x) (rw (drop-cons x i 0 h) at up) in (low, high)

  pub too_low : i < length x → get_or x i 0 ≤ a → climbs a n (drop i x) ≡ false
  too_low h wrong = fails (climbs a n (drop i x)) (λ up. omega (arith, first h up))

  pub too_high : i < length x → n < get_or x i 0 → climbs a n (drop i x) ≡ false
  too_high h wrong = fails (climbs a n (drop i x)) (λ up. omega (arith, first h up))

  pub goes_on : i < length x → a < get_or x i 0 → get_or x i 0 ≤ n → climbs a n (drop i x) ≡ climbs (get_or x i 0) n (drop (i + 1) x)
  unfolding climbs
  goes_on h low high = rw (drop-cons x i 0 h, add-one, lt-ltb a (get_or x i 0) low, le-leb (get_or x i 0) n high)

  pub ends : length x ≤ i → climbs a n (drop i x) ≡ true
  unfolding climbs
  ends h = rw (drop_of_length-le x {i = i} h)

pub ruleset test_steps = (other_length, right_length, too_low, too_high, goes_on, ends)
