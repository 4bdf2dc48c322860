-- The test of a partition from its last part on: what is still to be tested is the same test of the parts in front, over the last part and with what
-- it leaves of the sum.
-- Assumes nothing.
use mathlib.Core.Path.{◌≡◌}
use mathlib.Core.Bool.{true, false, and-true as and-with-true}
use mathlib.Core.List.{[], ◌∷◌, ◌++◌}
use Prim.Native.Nat.{ℕ, ◌+◌, ◌-◌, ◌≤◌, ◌<◌}
use native.Mathlib.Numerals.{add-one}
use native.Mathlib.Omega.{arith}
use lib.Dec.{eqb}
use lib.ListN.{length}
use Rattle.std.specs.Cmp.{both_ways}
use Rattle.std.proofs.lemmas.Bool.Decides.{nat_tests}
use Rattle.basics.specs.Sums.{total}
use Rattle.basics.proofs.Bools.{fails}
use Rattle.listings.specs.Bytes.{Bytes}
use Rattle.integer_partitions.specs.Objects.{descends, is_integer_partition}
use Rattle.integer_partitions.proofs.Facts.{partition_cases, Ends, snoc-cases, snoc_makes}

pub other_length : (f n k : ℕ) (x : Bytes) → (length x ≡ k → ⊥) → is_integer_partition f n k x ≡ false
other_length f n k x h = fails (is_integer_partition f n k x) (λ o. h (partition_cases f n k x o).size)

-- by the last part, p, of k

module _ (f n k p : ℕ) (y : Bytes) (size : k ≡ length y + 1) where
  last_of : is_integer_partition f n k (y ++ (p ∷ [])) ≡ true → Ends f n (length y) y p
  last_of o = snoc-cases f n (length y) y p (rw (size, add-one (length y)) at o)

  pub too_low : p < f → is_integer_partition f n k (y ++ (p ∷ [])) ≡ false
  too_low h = fails (is_integer_partition f n k (y ++ (p ∷ []))) (λ o. omega (arith, last_of o))

  pub too_large : n < p → is_integer_partition f n k (y ++ (p ∷ [])) ≡ false
  too_large h = fails (is_integer_partition f n k (y ++ (p ∷ []))) (λ o. omega (arith, last_of o))

  pub goes_on : f ≤ p → p ≤ n → is_integer_partition f n k (y ++ (p ∷ [])) ≡ is_integer_partition p (n - p) (length y) y
  goes_on low high =
      both_ways _ _ (λ o. (last_of o).rest)
      (λ o. rw (size, add-one (length y)) (snoc_makes f n (length y) y p (record { from = low; within = high; rest = o })))

pub ends : (f n k : ℕ) (x : Bytes) → length x ≡ 0 → k ≡ 0 → is_integer_partition f n k x ≡ eqb n 0
unfolding is_integer_partition descends total
ends f n k [] h e = rw (e, and-with-true (eqb 0 n)) (grind (arith, nat_tests))
ends f n k (a ∷ x) h e = absurd (omega arith)

pub ruleset test_steps = (other_length, too_low, too_large, goes_on, ends)
