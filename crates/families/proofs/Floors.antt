-- What a floor does to kind 5: its listing is that of floor 1 without the objects that have a smaller part, floor 1 is the family of old, and n = k = 0 has the empty
-- string alone, whatever the floor. Assumes nothing.
use mathlib.Core.Path.{◌≡◌, refl}
use mathlib.Core.Bool.{Bool, true, false, cond, ◌&&◌, ◌||◌}
use mathlib.Core.List.{[], ◌∷◌}
use Prim.Native.Nat.{ℕ}
use native.Mathlib.Nat.{mul-one}
use lib.Dec.{leb, ltb, eqb}
use Rattle.basics.specs.Limits.{places}
use Rattle.numbers.specs.Numbers.{partitions_of}
use Rattle.listings.specs.Rows.{Row}
use Rattle.listings.specs.Kept.{kept}
use Rattle.integer_partitions.specs.Objects.{is_integer_partition, at_least, integer_partition_before}
use Rattle.integer_partitions.specs.Listing.{integer_partitions}
use Rattle.integer_partitions.proofs.Floors.{floor_keeps}
use Rattle.families.specs.declared.Family.{Family}
use Rattle.families.specs.Table.{Lent, plain_family, no_counts, integer_partition_row}
use Rattle.families.specs.Families.{row, is_kind, in_table, floor_fits, edition_fits, lists_fit, asked_of_all, all_yes, allowed, listing}
use Rattle.families.proofs.FamilyFacts.{floor_positive}
use Rattle.families.proofs.Dispatch.{handed}
use Rattle.families.proofs.Edges.{empty_alone, integer_partitions_lem}

-- the table allows the family of old where it allows one with a floor
old_allowed : (n k : ℕ) (b : Lent) → (leb n places && leb k places) ≡ true → no_counts b ≡ true → allowed (plain_family 5 n k) b ≡ true
unfolding allowed all_yes asked_of_all is_kind in_table floor_fits edition_fits lists_fit row
old_allowed n k b bounds fits = rw (bounds, fits)

-- "a walk lists the splits that respect the floor and no others", "The order is unchanged"
pub floor_filters : (f : Family) (b : Lent) → f.kind ≡ 5 → allowed f b ≡ true → listing f b ≡ kept (at_least f.floor) (listing (plain_family 5 f.n f.k) b)
floor_filters f b e a =
    let t = handed 5 f b e a in
    let old = handed 5 (plain_family 5 f.n f.k) b refl (old_allowed f.n f.k b t.bounds t.fits) in
    rw (t.lists, old.lists) (floor_keeps 1 f.floor f.n f.k (floor_positive f b a e))

-- "Floor 1 is the split of old": question 10 refuses no family of floor 1, whatever the kind
pub floor_one_asked : (f : Family) → f.floor ≡ 1 → floor_fits f ≡ true
unfolding floor_fits
floor_one_asked f one = rw one (same (eqb f.kind 5))
  where
    same : (t : Bool) → cond t true true ≡ true
    same true = refl
    same false = refl

-- paper 01's row of kind 5
abbrev row_of_old : ℕ → ℕ → Lent → Row
row_of_old n k b =
    record {
      in_bounds = leb n places && leb k places;
      lists_fit = no_counts b;
      object_length = k;
      is_object = is_integer_partition 1 n k;
      comes_before = integer_partition_before;
      listing = integer_partitions 1 n k;
      number = partitions_of n k;
      has_object = leb k n && (ltb 0 k || eqb n 0);
    }

-- and the row of floor 1 is that of old: objects, order, listing, count, and whether there is one
pub floor_one : (f : Family) (b : Lent) → f.floor ≡ 1 → integer_partition_row f b ≡ row_of_old f.n f.k b
unfolding partitions_of
floor_one f b one = rw (one, mul-one f.k)

-- "the empty split remains the only object for n = k = 0"
pub empty_split : (f : Family) (b : Lent) → f.kind ≡ 5 → f.n ≡ 0 → f.k ≡ 0 → allowed f b ≡ true → listing f b ≡ [] ∷ []
empty_split f b e n k a = empty_alone f b a (integer_partitions_lem e n k)
