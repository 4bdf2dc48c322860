-- Kind 4's row of the table keeps its laws.
-- Assumes nothing.
use mathlib.Core.Bool.{Bool, ◌&&◌, ◌||◌}
use Prim.Native.Nat.{ℕ}
use lib.Dec.{leb, ltb, eqb}
use borrow.Author.Tests.{leb-true}
use Rattle.basics.specs.Limits.{places}
use Rattle.basics.proofs.Bools.{and-true}
use Rattle.numbers.specs.Numbers.{stirling_of}
use Rattle.numbers.proofs.Positive.{stirling_some}
use Rattle.listings.specs.Rows.{RowLaws}
use Rattle.set_partitions.specs.KeyOrder.{Edition}
use Rattle.set_partitions.specs.Objects.{is_set_partition, set_partition_before}
use Rattle.set_partitions.specs.Listing.{set_partitions}
use Rattle.set_partitions.proofs.Theorem.{lists, long, counted}

pub laws : (e : Edition) (n k : ℕ) (lent : Bool) → RowLaws (record { in_bounds = leb n places && leb k places; lists_fit = lent; object_length = n; is_object = is_set_partition n k; comes_before = set_partition_before e; listing = set_partitions e n k; number = stirling_of n k; has_object = leb k n && (ltb 0 k || eqb n 0) })
laws e n k lent =
    record {
      lists = lists e n k;
      long = long n k;
      counted = λ q h. counted e n k;
      positive = λ q h. stirling_some n k;
      short = λ q h. leb-true n places (and-true (leb n places) (leb k places) q).0;
    }
