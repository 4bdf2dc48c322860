-- Kind 3, permutations ("pouring order"): the anagrams with every letter once (SCOPE 1.3, 2.3).
-- Assumes nothing.
use Rattle.std.specs.Prelude.{Bool, List, ℕ, replicate}
use Rattle.listings.specs.Bytes.{Bytes}
use Rattle.anagrams.specs.Objects.{is_anagram}
use Rattle.anagrams.specs.Listing.{anagrams}

-- n letters, each once
abbrev pub ones : ℕ → List ℕ
ones n = replicate n 1

-- "each of 1 to n" (SCOPE 1.3)
abbrev pub is_permutation : ℕ → Bytes → Bool
is_permutation n x = is_anagram (ones n) x

-- in the order of kind 2 (SCOPE 2.3)
abbrev pub permutations : ℕ → List Bytes
permutations n = anagrams (ones n)
