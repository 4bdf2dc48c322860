-- Kind 5, integer partitions ("batch split"): the test of being one of n into k parts, over a floor for the parts, and the order (SCOPE 1.5, 2.5).
-- Assumes nothing.
use Rattle.std.specs.Prelude.{Bool, true, ◌&&◌, [], ◌∷◌, ℕ, leb, eqb, length, get_or}
use Rattle.basics.specs.Sums.{total}
use Rattle.listings.specs.Bytes.{Bytes}
use Rattle.listings.specs.Orders.{colex_before}

-- each part is at least the one behind it, and the last at least f
unfoldable pub descends : ℕ → Bytes → Bool
descends f [] = true
descends f (a ∷ x) = leb (get_or x 0 f) a && descends f x

-- "k parts, .. weakly descending, sum n" (SCOPE 1.5), each at least the floor f (SCOPE 1.e): `floor_keeps` says it part by part, with `at_least`
unfoldable pub is_integer_partition : ℕ → ℕ → ℕ → Bytes → Bool
is_integer_partition f n k x = eqb (length x) k && eqb (total x) n && descends f x

-- "every part of kind 5 is at least that floor" (SCOPE 1.e)
unfoldable pub at_least : ℕ → Bytes → Bool
at_least f [] = true
at_least f (p ∷ x) = leb f p && at_least f x

-- "at the last place where they differ, the smaller part" (SCOPE 2.5)
abbrev pub integer_partition_before : Bytes → Bytes → Bool
integer_partition_before = colex_before
