-- The listing of anagrams is all anagrams in the order by the first place that differs, and has as many as the multinomial says.
-- Assumes nothing.
use mathlib.Core.Path.{◌≡◌, refl, sym, ◌∙◌}
use mathlib.Core.Bool.{true}
use mathlib.Core.List.{List, [], ◌∷◌}
use Prim.Native.Nat.{ℕ, zero, suc}
use native.Mathlib.Omega.{arith}
use lib.Dec.{ltb}
use lib.ListN.{length}
use borrow.Author.Tests.{lt-ltb}
use Rattle.basics.specs.Sums.{total}
use Rattle.numbers.specs.Numbers.{multinomial_of, one_less, letters_from}
use Rattle.numbers.proofs.Laws.{total_less, over_letters, letter_left, letter_has, has_letter, one_empty}
use Rattle.listings.specs.Bytes.{Bytes}
use Rattle.listings.specs.Listings.{Ascending, none, more, Listing}
use Rattle.listings.proofs.ChoiceRules.{counted_choice}
use Rattle.listings.proofs.FirstLetters.{spelled}
use Rattle.anagrams.specs.Objects.{is_anagram, anagram_before}
use Rattle.anagrams.specs.Listing.{words, anagrams}
use Rattle.anagrams.proofs.Facts.{anagram_cases, first_off, without-first, empty_word}

pub long : (cs : List ℕ) (x : Bytes) → is_anagram cs x ≡ true → length x ≡ total cs
long cs x o = (anagram_cases cs x o).0

-- the letters that are left ascend, by what they are written as
pub ascending_letters : (a : ℕ) (cs : List ℕ) → Ascending (λ i j. ltb (suc i) (suc j)) (letters_from a cs)
unfolding letters_from
ascending_letters a [] = none
ascending_letters a (zero ∷ cs) = ascending_letters (suc a) cs
ascending_letters a (suc c ∷ cs) = more (λ y k. let (j, e, h) = letter_left (suc a) cs k in lt-ltb (suc a) (suc y) (omega arith)) (ascending_letters (suc a) cs)

-- the words of m letters, where the counts sum to m: the state is the counts that are left
listed : (m : ℕ) (cs : List ℕ) → total cs ≡ m → Listing (is_anagram cs) anagram_before (words m cs)
unfolding words
listed = spelled {choices = λ m. letters_from 0} {letter = suc} {next = one_less} (record {
  none = λ cs. refl;
  some = λ m cs. refl;
  sized = λ m cs x s o. long cs x o ∙ s;
  ends = λ cs s. empty_word cs ∙ rw s;
  onward = λ m cs i s k. omega (arith, total_less cs i (letter_has cs k));
  rising = λ m. ascending_letters 0;
  off = λ m cs a x s o. let (i, e, h, rest) = first_off cs a x o in (i, sym e, has_letter cs i h, rest);
  on = λ m cs i x s k o. without-first cs i (suc i) x refl (letter_has cs k) ∙ o;
})

counted_words : (m : ℕ) (cs : List ℕ) → total cs ≡ m → length (words m cs) ≡ multinomial_of cs
unfolding words
counted_words zero cs s = sym (one_empty cs s)
counted_words (suc m) cs s =
    counted_choice (letters_from 0 cs) (λ i. words m (one_less cs i)) (λ i x. suc i ∷ x) (λ i k. counted_words m (one_less cs i) (omega (arith, total_less cs i (letter_has cs k))))
    ∙ sym (over_letters cs (omega arith))

pub lists : (cs : List ℕ) → Listing (is_anagram cs) anagram_before (anagrams cs)
unfolding anagrams
lists cs = listed (total cs) cs refl

pub counted : (cs : List ℕ) → length (anagrams cs) ≡ multinomial_of cs
unfolding anagrams
counted cs = counted_words (total cs) cs refl
