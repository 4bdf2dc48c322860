-- Kind 6's row of the table keeps its laws.
-- Assumes nothing.
use mathlib.Core.Bool.{Bool, true, ◌&&◌}
use Prim.Native.Nat.{ℕ, ◌*◌}
use native.Mathlib.Omega.{arith}
use lib.Dec.{leb, eqb}
use borrow.Author.Tests.{leb-true}
use Rattle.basics.specs.Limits.{branches}
use Rattle.basics.proofs.Bools.{and-true}
use Rattle.numbers.specs.Numbers.{catalan_of}
use Rattle.numbers.proofs.Positive.{catalan_some}
use Rattle.listings.specs.Rows.{RowLaws}
use Rattle.dyck_words.specs.Objects.{is_dyck_word}
use Rattle.dyck_words.specs.Trees.{dyck_before}
use Rattle.dyck_words.specs.Listing.{dyck_words}
use Rattle.dyck_words.proofs.Theorem.{lists, long, counted}

pub laws : (n k : ℕ) (lent : Bool) → RowLaws (record { in_bounds = leb n branches && eqb k 0; lists_fit = lent; object_length = 2 * n; is_object = is_dyck_word n; comes_before = dyck_before; listing = dyck_words n; number = catalan_of n; has_object = true })
laws n k lent =
    record {
      lists = lists n;
      long = long n;
      counted = λ e h. counted n;
      positive = λ e h. catalan_some n;
      short = λ e h. let small = leb-true n branches (and-true (leb n branches) (eqb k 0) e).0 in omega arith;
    }
