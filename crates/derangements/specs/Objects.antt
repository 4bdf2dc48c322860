-- Kind 7, derangements ("nobody on last week's hook"): the test of being one, and the order (SCOPE 1.7, 2.7).
-- Assumes nothing.
use Rattle.std.specs.Prelude.{Bool, false, cond, not, ◌&&◌, ◌||◌, [], ◌∷◌, ℕ, zero, suc, ◌+◌, ◌-◌, ltb, eqb}
use Rattle.listings.specs.Bytes.{Bytes}
use Rattle.anagrams.specs.Permutations.{is_permutation}
use Rattle.derangements.specs.Cycles.{image, paired, cut, unpair}

-- does f(j) = j for a place j from i on? The bytes from there on are handed
unfoldable pub has_fixed_point : ℕ → Bytes → Bool
has_fixed_point i [] = false
has_fixed_point i (b ∷ x) = eqb i b || has_fixed_point (suc i) x

-- "byte i being f(i), a permutation with f(i) never i" (SCOPE 1.7)
unfoldable pub is_derangement : ℕ → Bytes → Bool
is_derangement n x = is_permutation n x && not (has_fixed_point 1 x)

-- "Objects in which f(c) isn't n come first, by c", "those with f(c) = n follow, by c" (SCOPE 2.7): c, which is f(n), is 1 to n - 1, and the others get
-- the numbers above
unfoldable pub key_of : ℕ → Bytes → ℕ
key_of n x = cond (paired n x) ((n - 1) + image x n) (image x n)

-- of n places: the smaller key, "then by the derangement left" (SCOPE 2.7)
unfoldable pub derangement_before : ℕ → Bytes → Bytes → Bool
derangement_before zero x y = false
derangement_before (suc zero) x y = false
derangement_before (suc (suc m)) x y =
    let n = suc (suc m) in
    let same = cond (paired n x) (derangement_before m (unpair n x) (unpair n y)) (derangement_before (suc m) (cut n x) (cut n y)) in
    ltb (key_of n x) (key_of n y) || (eqb (key_of n x) (key_of n y) && same)
