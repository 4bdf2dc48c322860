-- The rows of kinds 2 and 3 of the table keep their laws.
-- Assumes nothing.
use mathlib.Core.Path.{◌∙◌}
use mathlib.Core.Bool.{Bool, true, ◌&&◌}
use mathlib.Core.List.{List}
use Prim.Native.Nat.{ℕ}
use lib.Dec.{leb, eqb}
use lib.ListN.{length}
use borrow.Author.Tests.{leb-true}
use Rattle.basics.specs.Limits.{places}
use Rattle.basics.specs.Sums.{total}
use Rattle.basics.proofs.Bools.{and-true}
use Rattle.numbers.specs.Numbers.{multinomial_of, factorial_of}
use Rattle.numbers.proofs.Laws.{total-ones, multinomial_ones}
use Rattle.numbers.proofs.Positive.{multinomial_some, factorial_some}
use Rattle.listings.specs.Rows.{RowLaws}
use Rattle.anagrams.specs.Objects.{is_anagram, anagram_before}
use Rattle.anagrams.specs.Listing.{anagrams}
use Rattle.anagrams.specs.Permutations.{ones, is_permutation, permutations}
use Rattle.anagrams.proofs.Theorem.{lists, long, counted}

pub laws : (n : ℕ) (cs : List ℕ) (bounds : Bool) → RowLaws (record { in_bounds = bounds; lists_fit = eqb (length cs) n && leb (total cs) places; object_length = total cs; is_object = is_anagram cs; comes_before = anagram_before; listing = anagrams cs; number = multinomial_of cs; has_object = true })
laws n cs bounds =
    record {
      lists = lists cs;
      long = long cs;
      counted = λ e h. counted cs;
      positive = λ e h. multinomial_some cs;
      short = λ e h. leb-true (total cs) places (and-true (eqb (length cs) n) (leb (total cs) places) h).1;
    }

pub permutation_laws : (n k : ℕ) (lent : Bool) → RowLaws (record { in_bounds = leb n places && eqb k 0; lists_fit = lent; object_length = n; is_object = is_permutation n; comes_before = anagram_before; listing = permutations n; number = factorial_of n; has_object = true })
permutation_laws n k lent =
    record {
      lists = lists (ones n);
      long = λ x o. long (ones n) x o ∙ total-ones n;
      counted = λ e h. counted (ones n) ∙ multinomial_ones n;
      positive = λ e h. factorial_some n;
      short = λ e h. leb-true n places (and-true (leb n places) (eqb k 0) e).0;
    }
