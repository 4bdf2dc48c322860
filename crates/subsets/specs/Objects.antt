-- Kind 1, subsets ("sites used"): the test of being one of k out of 1 to n, and the order (SCOPE 1.1, 2.1).
-- Assumes nothing.
use Rattle.std.specs.Prelude.{Bool, true, ◌&&◌, [], ◌∷◌, ℕ, leb, ltb, eqb, length}
use Rattle.listings.specs.Bytes.{Bytes}
use Rattle.listings.specs.Orders.{colex_before}

-- every number is above a and above the one in front of it, and at most n
unfoldable pub climbs : ℕ → ℕ → Bytes → Bool
climbs a n [] = true
climbs a n (b ∷ x) = ltb a b && leb b n && climbs b n x

-- "k site numbers from 1 to n, strictly ascending" (SCOPE 1.1)
unfoldable pub is_subset : ℕ → ℕ → Bytes → Bool
is_subset n k x = eqb (length x) k && climbs 0 n x

-- "at the last place where they differ, the smaller site number" (SCOPE 2.1)
abbrev pub subset_before : Bytes → Bytes → Bool
subset_before = colex_before
