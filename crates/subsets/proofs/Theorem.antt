-- The listing of subsets is all of them, each once, in their order, and as many as the binomial coefficient.
-- Assumes nothing.
use mathlib.Core.Path.{◌≡◌, sym, ◌∙◌}
use mathlib.Core.Bool.{true}
use mathlib.Core.List.{[], ◌∷◌, ◌++◌}
use Prim.Native.Nat.{ℕ, zero, suc}
use native.Mathlib.Omega.{arith}
use lib.Dec.{ltb}
use lib.ListN.{length}
use borrow.Author.Tests.{ltb-true}
use Rattle.basics.specs.Sums.{range}
use Rattle.basics.proofs.Ranges.{between}
use Rattle.numbers.specs.Numbers.{choose}
use Rattle.numbers.proofs.Laws.{choose-zero, choose-sum}
use Rattle.listings.specs.Bytes.{Bytes}
use Rattle.listings.specs.Listings.{Listing}
use Rattle.listings.proofs.AscendingRules.{ascending-range}
use Rattle.listings.proofs.ChoiceRules.{one_rule, choice_rule, counted_choice}
use Rattle.listings.proofs.OrderFacts.{colex_strict, smaller_last, earlier_front}
use Rattle.subsets.specs.Objects.{is_subset, subset_before}
use Rattle.subsets.specs.Listing.{subsets}
use Rattle.subsets.proofs.Facts.{subset_cases, no_numbers, is_empty, take_off, put_on}

pub long : (n k : ℕ) (x : Bytes) → is_subset n k x ≡ true → length x ≡ k
long n k x e = (subset_cases n k x e).0

pub lists : (n k : ℕ) → Listing (is_subset n k) subset_before (subsets n k)
unfolding subsets
lists n zero = one_rule (colex_strict (is_subset n 0) 0 (long n 0)) [] (no_numbers n) (is_empty n)
lists n (suc k) =
    choice_rule (λ m. subsets m k) (λ m x. x ++ (suc m ∷ []))
    (record {
      object_of = λ m. is_subset m k;
      lt_of = λ m. subset_before;
      ltc = ltb;
      order = colex_strict (is_subset n (suc k)) (suc k) (long n (suc k));
      rising = ascending-range 0 n;
      parts = λ m i. lists m k;
      off = take_off n k;
      on = λ m x i o. put_on n k m x (omega (arith, between 0 n i)) o;
      less = λ l m x y i j h o p. smaller_last x y (suc l) (suc m) (long l k x o ∙ sym (long m k y p)) (omega (arith, ltb-true l m h));
      tie = λ m x y i o p h. earlier_front x y (suc m) (long m k x o ∙ sym (long m k y p)) h;
    })

pub counted : (n k : ℕ) → length (subsets n k) ≡ choose n k
unfolding subsets
counted n zero = sym (choose-zero n)
counted n (suc k) = counted_choice (range 0 n) (λ m. subsets m k) (λ m x. x ++ (suc m ∷ [])) (λ m i. counted m k) ∙ choose-sum n k
