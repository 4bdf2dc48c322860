-- Where a word stands by its first letter; the end in either direction: a word in which no letter precedes a later one. So the first
-- word has the letters in ascending order, and the last is that turned round. Assumes nothing.
use mathlib.Core.Path.{◌≡◌, refl, sym, ◌∙◌, ap}
use mathlib.Core.Logic.{inl, inr, ⊎_elim}
use mathlib.Core.Bool.{Bool, true, false, not, true≢false}
use mathlib.Core.List.Memᴰ
use mathlib.Core.List.Permᴰ
use mathlib.Core.List.{List, [], ◌∷◌, ◌++◌, reverse, append_assoc, append-nil, Memᴰ}
use Prim.Native.Nat.{ℕ, zero, suc, ◌+◌, ◌-◌, ◌≤◌, ◌<◌}
use native.Mathlib.Nat.{add-zero, suc-add, add-suc}
use native.Mathlib.Numerals.{add-one}
use native.Mathlib.Omega.{arith}
use lib.Dec.{ltb}
use lib.ListN.{length, get_or, take, drop, replicate, length-replicate, length-drop, drop_of_length-le}
use lib.Seq.{take_all, drop-cons, length-take-le}
use borrow.Rule.Slice.PartMut.{mid_of, put_mid, same_len_mid}
use borrow.Author.Tests.{ltb-true, lt-ltb, le-ltb, not-true}
use Rattle.basics.specs.Sums.{total}
use Rattle.basics.proofs.Lists.{put_part}
use Rattle.basics.proofs.Totals.{total-drop, total_end}
use Rattle.numbers.specs.Numbers.{one_less, letters_from}
use Rattle.numbers.proofs.Laws.{total_less, letter_has, has_letter}
use Rattle.listings.specs.Bytes.{Bytes}
use Rattle.listings.specs.Choices.{by_choice}
use Rattle.listings.specs.Listings.{none, more, Listing}
use Rattle.listings.specs.Places.{First, Last}
use Rattle.listings.specs.Directions.{Edge, latest, earliest}
use Rattle.listings.proofs.Members.{flat_map_cong}
use Rattle.listings.proofs.AscendingRules.{ascending-reverse}
use Rattle.listings.proofs.OrderFacts.{trichotomy}
use Rattle.listings.proofs.PlaceRules.{at_unique_element}
use Rattle.listings.proofs.Ranks.{edge_none, edge_first, edge_last}
use Rattle.listings.proofs.ChoicePlaces.{edge_choice}
use Rattle.anagrams.specs.Objects.{is_anagram}
use Rattle.anagrams.specs.Listing.{words, anagrams}
use Rattle.anagrams.specs.Inner.Directions.{precedes_by, Spent}
use Rattle.anagrams.proofs.Facts.{without-first, first_off, empty_word, stands_in, rearranged}
use Rattle.anagrams.proofs.Theorem.{long, ascending_letters}

-- by the first letter, where there is one: the words of the others, with it put in front

abbrev pub others : List ℕ → ℕ → List Bytes
others cs i = anagrams (one_less cs i)

abbrev pub put : ℕ → Bytes → Bytes
put i x = suc i ∷ x

pub by_letter : (cs : List ℕ) (i : ℕ) → 0 < get_or cs i 0 → anagrams cs ≡ by_choice (letters_from 0 cs) (others cs) put
unfolding anagrams words
by_letter cs i h =
    rw (← total_less cs i h)
    (flat_map_cong (letters_from 0 cs) (λ j k. let e : total (one_less cs i) ≡ total (one_less cs j) = omega (arith, total_less cs i h, total_less cs j (letter_has cs k)) in rw e))

-- the letters that are left, by what they are written as
pub letters : (cs : List ℕ) → Listing (λ i. ltb 0 (get_or cs i 0)) (λ i j. ltb (suc i) (suc j)) (letters_from 0 cs)
letters cs = record {
  order = record {
    irreflexive = λ i o h. omega (arith, ltb-true (suc i) (suc i) h);
    transitive = λ i j k o p q h l. lt-ltb (suc i) (suc k) (omega (arith, ltb-true (suc i) (suc j) h, ltb-true (suc j) (suc k) l));
    total = λ i j o p. ⊎_elim (λ h. inl (lt-ltb (suc i) (suc j) (omega arith))) (λ r. inr (⊎_elim inl (λ h. inr (lt-ltb (suc j) (suc i) (omega arith))) r)) (trichotomy i j);
  };
  every = λ i o. has_letter cs i (ltb-true 0 (get_or cs i 0) o);
  only = λ i k. lt-ltb 0 (get_or cs i 0) (letter_has cs k);
  ascending = ascending_letters 0 cs;
}

-- words in which no letter precedes a later one

pub not_itself : (up : Bool) (a b : ℕ) → a ≡ b → precedes_by up a b ≡ true → ⊥
unfolding precedes_by
not_itself true a b e h = omega (arith, ltb-true a b h)
not_itself false a b e h = omega (arith, ltb-true b a h)

pub refuted : {t : Bool} → not t ≡ true → t ≡ true → ⊥
refuted k h = true≢false (sym h ∙ not-true _ k)

-- a letter left that the first of the word precedes stands behind it
pub behind : (up : Bool) (cs : List ℕ) (a : ℕ) (x : Bytes) (j : ℕ) → is_anagram cs (a ∷ x) ≡ true → 0 < get_or cs j 0 → precedes_by up a (suc j) ≡ true → Memᴰ (suc j) x
behind up cs a x j o h less = ⊎_elim (λ e. absurd (not_itself up a (suc j) (sym e) less)) (λ m. m) (Memᴰ.cases_cons (stands_in cs j (a ∷ x) o h))

only_empty : (up : Bool) (cs : List ℕ) → total cs ≡ 0 → Edge up (anagrams cs) []
unfolding anagrams words
only_empty true cs e = rw e (latest (record { place = 0; here = refl; final = refl }))
only_empty false cs e = rw e (earliest refl)

pub spent_edge : (up : Bool) (cs : List ℕ) (x : Bytes) → is_anagram cs x ≡ true → Spent up x → Edge up (anagrams cs) x
unfolding precedes_by
spent_edge up cs [] o s = only_empty up cs (sym (long cs [] o))
spent_edge up cs (a ∷ x) o (more before rest) =
    let (i, e, h, off) = first_off cs a x o in
    rw (by_letter cs i h, e)
    (edge_choice (others cs) put (edge_none (letters cs) up (lt-ltb 0 _ h) (λ j k less. let l = rw (← e) at less in refuted (before (suc j) (behind up cs a x j o (ltb-true 0 _ k) l)) l))
    (spent_edge up (one_less cs i) x off rest))

-- turned round it is one for the other direction
pub spent_reverse : (up : Bool) {x : Bytes} → Spent up x → Spent (not up) (reverse x)
unfolding precedes_by
spent_reverse true s = ascending-reverse s
spent_reverse false s = ascending-reverse s

-- the letters from a on, each as often as the counts say

pub rising : ℕ → List ℕ → Bytes
rising a [] = []
rising a (c ∷ cs) = replicate c a ++ rising (suc a) cs

-- no letter is below a, and each is at most the next
record From (a : ℕ) (x : Bytes) : Type 0 where
  low : (b : ℕ) → Memᴰ b x → a ≤ b
  spent : Spent false x

copies : (c : ℕ) {a : ℕ} {x : Bytes} → From a x → From a (replicate c a ++ x)
unfolding precedes_by
copies zero f = f
copies (suc c) {a} f =
    let g = copies c f in
    record { low = λ b k. ⊎_elim (λ e. omega arith) (g.low b) (Memᴰ.cases_cons k); spent = more {x = a} (λ b k. rw (le-ltb b a (g.low b k))) g.spent }

rising_from : (a : ℕ) (cs : List ℕ) → From a (rising a cs)
unfolding rising
rising_from a [] = record { low = λ b k. absurd (Memᴰ.not-nil k); spent = none }
rising_from a (c ∷ cs) = let f = rising_from (suc a) cs in copies c (record { low = λ b k. omega (arith, f.low b k); spent = f.spent })

-- the first letter off
rising_first : (a : ℕ) (cs : List ℕ) → 0 < total cs → (i : ℕ) × (0 < get_or cs i 0) × (rising a cs ≡ (a + i) ∷ rising a (one_less cs i))
unfolding rising one_less total
rising_first a [] h = absurd (omega arith)
rising_first a (zero ∷ cs) h = let (i, k, e) = rising_first (suc a) cs (omega arith) in (suc i, k, e ∙ rw (suc-add, add-suc))
rising_first a (suc c ∷ cs) h = (0, omega arith, rw add-zero)

rising_empty : (a : ℕ) (cs : List ℕ) → total cs ≡ 0 → rising a cs ≡ []
unfolding rising total
rising_empty a [] s = refl
rising_empty a (zero ∷ cs) s = rising_empty (suc a) cs (omega arith)
rising_empty a (suc c ∷ cs) s = absurd (omega arith)

rising_anagram : (m : ℕ) (cs : List ℕ) → total cs ≡ m → is_anagram cs (rising 1 cs) ≡ true
rising_anagram zero cs s = rw (rising_empty 1 cs s, empty_word cs, s)
rising_anagram (suc m) cs s =
    let (i, h, e) = rising_first 1 cs (omega arith) in
    rw (e, without-first cs i (1 + i) (rising 1 (one_less cs i)) (omega arith) h) (rising_anagram m (one_less cs i) (omega (arith, total_less cs i h)))

rising_is_first : (cs : List ℕ) → First (anagrams cs) (rising 1 cs)
rising_is_first cs = edge_first (spent_edge false cs _ (rising_anagram _ cs refl) (rising_from 1 cs).spent)

pub first_turned : (cs : List ℕ) (x : Bytes) → First (anagrams cs) x → Last (anagrams cs) (reverse x)
first_turned cs x h =
    rw (at_unique_element (anagrams cs) 0 h (rising_is_first cs))
    (edge_last (spent_edge true cs _ (rearranged cs (Permᴰ.reverse (rising 1 cs)) ∙ rising_anagram _ cs refl) (spent_reverse false (rising_from 1 cs).spent)))

-- written letter by letter: the first i letters fill the places in front of `at`
pub record Written (counts object : List ℕ) (at i : ℕ) : Type 0 where
  pub long : length object ≡ total counts
  pub room : at + total (drop i counts) ≡ total counts
  pub word : take at object ++ rising (suc i) (drop i counts) ≡ rising 1 counts

pub written_none : (counts object : List ℕ) → length object ≡ total counts → Written counts object 0 0
written_none counts object e = record { long = e; room = omega arith; word = refl }

-- ys is the part that is lent for letter i, c places, filled with it
pub written_more : (counts object ys : List ℕ) (at c i : ℕ) → c ≡ get_or counts i 0 → i < length counts → Written counts object at i → ys ≡ replicate (length (mid_of at (at + c - at) object)) (i + 1)
    → Written counts (put_mid at (at + c - at) object ys) (at + c) (i + 1)
unfolding rising
written_more counts object ys at c i count h w made =
    let left = total-drop counts i h in
    let fits : at + c ≤ length object = omega (arith, w.long, w.room) in
    let e : at + c - at ≡ c = omega arith in
    let part : length (mid_of at c object) ≡ c = length-take-le c (drop at object) (simp length-drop (omega arith)) in
    let is : ys ≡ replicate c (i + 1) = rw (e, part) at made in
    rw e record {
      long = same_len_mid at c object ys (ap length is ∙ length-replicate c (i + 1) ∙ sym part) ∙ w.long;
      room = omega (arith, w.room);
      word = rw (put_part at c object ys (omega arith) (ap length is ∙ length-replicate c (i + 1)), is, add-one, append_assoc, count) (rw (drop-cons counts i 0 h) at w.word);
    }

pub written_all : (counts object : List ℕ) (at i : ℕ) → length counts ≤ i → Written counts object at i → First (anagrams counts) object
unfolding rising
written_all counts object at i h w =
    let full : length object ≤ at = omega (arith, w.long, w.room, total_end counts i h) in
    let whole : object ≡ rising 1 counts = rw (drop_of_length-le counts h, take_all at object full, append-nil) at w.word in
    rw whole (rising_is_first counts)
