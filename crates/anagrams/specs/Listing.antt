-- The listing (SCOPE 5.1) of anagrams: by the first letter, ascending, each before the words that the letters left can make.
-- Assumes nothing.
use Rattle.std.specs.Prelude.{List, [], ◌∷◌, ℕ, zero, suc}
use Rattle.basics.specs.Sums.{total}
use Rattle.numbers.specs.Numbers.{one_less, letters_from}
use Rattle.listings.specs.Bytes.{Bytes}
use Rattle.listings.specs.Choices.{by_choice}

-- words of m letters; letter i of the counts, from 0, is written i + 1
unfoldable pub words : ℕ → List ℕ → List Bytes
words zero cs = [] ∷ []
words (suc m) cs = by_choice (letters_from 0 cs) (λ i. words m (one_less cs i)) (λ i x. suc i ∷ x)

-- words of all the letters: the length is "that sum", of the counts; in the order by the first place (SCOPE 1.2, 2.2)
unfoldable pub anagrams : List ℕ → List Bytes
anagrams cs = words (total cs) cs
