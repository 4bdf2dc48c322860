-- Kind 1's row of the table keeps its laws.
-- Assumes nothing.
use mathlib.Core.Bool.{Bool, ◌&&◌}
use Prim.Native.Nat.{ℕ}
use lib.Dec.{leb}
use borrow.Author.Tests.{leb-true}
use Rattle.basics.specs.Limits.{places}
use Rattle.basics.proofs.Bools.{and-true}
use Rattle.numbers.specs.Numbers.{choose}
use Rattle.numbers.proofs.Positive.{choose-some}
use Rattle.listings.specs.Rows.{RowLaws}
use Rattle.subsets.specs.Objects.{is_subset, subset_before}
use Rattle.subsets.specs.Listing.{subsets}
use Rattle.subsets.proofs.Theorem.{lists, long, counted}

pub laws : (n k : ℕ) (lent : Bool) → RowLaws (record { in_bounds = leb n places && leb k places; lists_fit = lent; object_length = k; is_object = is_subset n k; comes_before = subset_before; listing = subsets n k; number = choose n k; has_object = leb k n })
laws n k lent =
    record {
      lists = lists n k;
      long = long n k;
      counted = λ e h. counted n k;
      positive = λ e h. choose-some n k;
      short = λ e h. leb-true k places (and-true (leb n places) (leb k places) e).1;
    }
