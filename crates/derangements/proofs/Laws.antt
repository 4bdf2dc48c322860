-- Kind 7's row of the table keeps its laws.
-- Assumes nothing.
use mathlib.Core.Bool.{Bool, not, ◌&&◌}
use Prim.Native.Nat.{ℕ}
use lib.Dec.{leb, eqb}
use borrow.Author.Tests.{leb-true}
use Rattle.basics.specs.Limits.{places}
use Rattle.basics.proofs.Bools.{and-true}
use Rattle.numbers.specs.Numbers.{derangements_of}
use Rattle.numbers.proofs.Positive.{derangement_some}
use Rattle.listings.specs.Rows.{RowLaws}
use Rattle.derangements.specs.Objects.{is_derangement, derangement_before}
use Rattle.derangements.specs.Listing.{derangements}
use Rattle.derangements.proofs.Theorem.{lists, long, counted}

pub laws : (n k : ℕ) (lent : Bool) → RowLaws (record { in_bounds = leb n places && eqb k 0; lists_fit = lent; object_length = n; is_object = is_derangement n; comes_before = derangement_before n; listing = derangements n; number = derangements_of n; has_object = not (eqb n 1) })
laws n k lent =
    record {
      lists = lists n;
      long = long n;
      counted = λ q h. counted n;
      positive = λ q h. derangement_some n;
      short = λ q h. leb-true n places (and-true (leb n places) (eqb k 0) q).0;
    }
