-- Kind 2, anagrams ("hanging"), words of a multiset of letters: the test of being one, and the order (SCOPE 1.2, 2.2).
-- Assumes nothing.
use Rattle.std.specs.Prelude.{Bool, true, ◌&&◌, List, [], ◌∷◌, ℕ, suc, ◌+◌, eqb, length}
use Rattle.basics.specs.Sums.{total}
use Rattle.listings.specs.Bytes.{Bytes}
use Rattle.listings.specs.Orders.{lex_before}
use Rattle.listings.specs.Places.{tick}

-- how often the letter a stands in the word
unfoldable pub occurrences : ℕ → Bytes → ℕ
occurrences a [] = 0
occurrences a (b ∷ x) = tick (eqb a b) + occurrences a x

-- the letters i, i + 1, .. stand in the word as often as the counts say
unfoldable pub tallies : ℕ → List ℕ → Bytes → Bool
tallies i [] x = true
tallies i (c ∷ cs) x = eqb (occurrences i x) c && tallies (suc i) cs x

-- "word with letter i exactly as often as count i says, i from 1 to n", and, by its length, no other letter (SCOPE 1.2)
unfoldable pub is_anagram : List ℕ → Bytes → Bool
is_anagram cs x = eqb (length x) (total cs) && tallies 1 cs x

-- "at the first place where they differ, the smaller letter" (SCOPE 2.2)
abbrev pub anagram_before : Bytes → Bytes → Bool
anagram_before = lex_before
