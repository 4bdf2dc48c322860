-- The list `integer_partitions f n k` is the listing of the partitions of n into k parts that are at least f, and as long as the count says.
-- Assumes nothing.
use mathlib.Core.Path.{◌≡◌, refl, sym, ◌∙◌, subst}
use mathlib.Core.Bool.{true}
use mathlib.Core.List.{[], ◌∷◌, ◌++◌}
use Prim.Native.Nat.{ℕ, zero, suc, ◌-◌}
use native.Mathlib.Omega.{arith}
use lib.Dec.{ltb}
use lib.ListN.{length, get_or, take}
use lib.Seq.{take_all}
use borrow.Author.Tests.{ltb-true}
use Rattle.basics.specs.Sums.{total, range}
use Rattle.basics.proofs.Lists.{last_split}
use Rattle.basics.proofs.Ranges.{between, in_range}
use Rattle.basics.proofs.Totals.{total_end}
use Rattle.numbers.specs.Numbers.{parts_from}
use Rattle.listings.specs.Bytes.{Bytes}
use Rattle.listings.specs.Listings.{Listing}
use Rattle.listings.proofs.AscendingRules.{ascending-range}
use Rattle.listings.proofs.ChoiceRules.{none_rule, one_rule, choice_rule, counted_choice}
use Rattle.listings.proofs.OrderFacts.{colex_strict, smaller_last, earlier_front}
use Rattle.integer_partitions.specs.Objects.{descends, is_integer_partition, integer_partition_before}
use Rattle.integer_partitions.specs.Listing.{integer_partitions}
use Rattle.integer_partitions.proofs.Facts.{partition_cases, partition_makes, snoc-cases, snoc_makes}

pub long : (f n k : ℕ) (x : Bytes) → is_integer_partition f n k x ≡ true → length x ≡ k
long f n k x o = (partition_cases f n k x o).size

pub lists : (f n k : ℕ) → Listing (is_integer_partition f n k) integer_partition_before (integer_partitions f n k)
unfolding integer_partitions total descends
lists f zero zero =
    one_rule (colex_strict _ 0 (long f 0 0)) [] (partition_makes f 0 0 [] (record { size = refl; sum = refl; down = refl }))
    (λ x o. sym (take_all 0 x (omega (arith, long f 0 0 x o))))
lists f (suc n) zero = none_rule (colex_strict _ 0 (long f (suc n) 0)) (λ x o. let p = partition_cases f (suc n) 0 x o in omega (arith, total_end x 0 (omega arith)))
lists f n (suc k) =
    choice_rule (λ p. integer_partitions p (n - p) k) (λ p x. x ++ (p ∷ []))
    (record {
      object_of = λ p. is_integer_partition p (n - p) k;
      lt_of = λ p. integer_partition_before;
      ltc = ltb;
      order = colex_strict _ (suc k) (long f n (suc k));
      rising = ascending-range f (suc n - f);
      parts = λ p m. lists p (n - p) k;
      off = λ x o.
          let whole = last_split k x (long f n (suc k) x o) in
          let ends = snoc-cases f n k (take k x) (get_or x k 0) (subst (λ y. is_integer_partition f n (suc k) y ≡ true) whole o) in
          record { choice = get_or x k 0; listed = in_range f (suc n - f) ends.from (omega arith); left = take k x; object = ends.rest; whole = sym whole };
      on = λ p x m o. let b = between f (suc n - f) m in snoc_makes f n k x p (record { from = b.from; within = omega arith; rest = o });
      less = λ p q x y i j h o o'. smaller_last x y p q (long p (n - p) k x o ∙ sym (long q (n - q) k y o')) (ltb-true p q h);
      tie = λ p x y i o o'. earlier_front x y p (long p (n - p) k x o ∙ sym (long p (n - p) k y o'));
    })

pub counted : (f n k : ℕ) → length (integer_partitions f n k) ≡ parts_from f n k
unfolding integer_partitions parts_from
counted f zero zero = refl
counted f (suc n) zero = refl
counted f n (suc k) = counted_choice (range f (suc n - f)) (λ p. integer_partitions p (n - p) k) (λ p x. x ++ (p ∷ [])) (λ p m. counted p (n - p) k)
