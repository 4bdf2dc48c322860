-- Kind 5's row of the table keeps its laws, whatever the floor.
-- Assumes nothing.
use mathlib.Core.Bool.{Bool, ◌&&◌, ◌||◌}
use Prim.Native.Nat.{ℕ, ◌*◌}
use lib.Dec.{leb, ltb, eqb}
use borrow.Author.Tests.{leb-true}
use Rattle.basics.specs.Limits.{places}
use Rattle.basics.proofs.Bools.{and-true}
use Rattle.numbers.specs.Numbers.{parts_from}
use Rattle.numbers.proofs.Positive.{parts_some}
use Rattle.listings.specs.Rows.{RowLaws}
use Rattle.integer_partitions.specs.Objects.{is_integer_partition, integer_partition_before}
use Rattle.integer_partitions.specs.Listing.{integer_partitions}
use Rattle.integer_partitions.proofs.Theorem.{lists, long, counted}

pub laws : (f n k : ℕ) (lent : Bool) → RowLaws (record { in_bounds = leb n places && leb k places; lists_fit = lent; object_length = k; is_object = is_integer_partition f n k; comes_before = integer_partition_before; listing = integer_partitions f n k; number = parts_from f n k; has_object = leb (k * f) n && (ltb 0 k || eqb n 0) })
laws f n k lent =
    record {
      lists = lists f n k;
      long = long f n k;
      counted = λ e h. counted f n k;
      positive = λ e h. parts_some f n k;
      short = λ e h. leb-true k places (and-true (leb n places) (leb k places) e).1;
    }
