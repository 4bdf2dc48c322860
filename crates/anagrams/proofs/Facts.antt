-- What the test of an anagram says: an anagram is a letter with a count left before an anagram of the counts without it, and a word with
-- its letters in another order passes too. Assumes nothing.
use mathlib.Core.Path.{◌≡◌, refl, sym, ◌∙◌, ap}
use mathlib.Core.Logic.{◌⊎◌, inl, inr, ⊎_elim}
use mathlib.Core.Bool.{true, and_self}
use mathlib.Core.List.{List, [], ◌∷◌, Memᴰ, Permᴰ}
use Prim.Native.Nat.{ℕ, zero, suc, ◌+◌, ◌-◌, ◌≤◌, ◌<◌}
use native.Mathlib.Nat.{zero-add, suc-add}
use native.Mathlib.Numerals.{one-add}
use native.Mathlib.Decide.{ℕ_discrete}
use native.Mathlib.Omega.{arith}
use lib.Dec.{eqb, eqb-zero-suc, eqb-suc-suc}
use lib.ListN.{length, get_or, length-replicate}
use lib.Seq.{get_or-set_other}
use borrow.Author.Tests.{eqb-true, eq-eqb, ne_eqb}
use Rattle.basics.specs.Limits.{places}
use Rattle.basics.specs.Sums.{total}
use Rattle.numbers.specs.Numbers.{one_less}
use Rattle.numbers.proofs.Laws.{total_less, one_less-set, total-ones}
use Rattle.listings.specs.Bytes.{Bytes}
use Rattle.basics.proofs.Bools.{and-true, and_makes}
use Rattle.anagrams.specs.Objects.{occurrences, tallies, is_anagram}
use Rattle.anagrams.specs.Permutations.{ones}

pub anagram_cases : (cs : List ℕ) (x : Bytes) → is_anagram cs x ≡ true → (length x ≡ total cs) × (tallies 1 cs x ≡ true)
unfolding is_anagram
anagram_cases cs x o = let both = and-true (eqb (length x) (total cs)) (tallies 1 cs x) o in (eqb-true _ _ both.0, both.1)

-- one more letter before a word

pub occurrences-same : (b a : ℕ) (x : Bytes) → b ≡ a → occurrences b (a ∷ x) ≡ suc (occurrences b x)
unfolding occurrences
occurrences-same b a x e = rw (eq-eqb b a e, one-add)

pub occurrences_other : (b a : ℕ) (x : Bytes) → (b ≡ a → ⊥) → occurrences b (a ∷ x) ≡ occurrences b x
unfolding occurrences
occurrences_other b a x n = rw (ne_eqb b a n, zero-add)

-- a letter below all that are counted
below : (i : ℕ) (cs : List ℕ) (a : ℕ) (x : Bytes) → a < i → tallies i cs (a ∷ x) ≡ tallies i cs x
unfolding tallies
below i [] a x h = refl
below i (c ∷ cs) a x h = rw (occurrences_other i a x (omega arith), below (suc i) cs a x (omega arith))

-- a letter that has a count left takes one off
take_off : (i : ℕ) (cs : List ℕ) (j a : ℕ) (x : Bytes) → a ≡ i + j → 0 < get_or cs j 0 → tallies i cs (a ∷ x) ≡ tallies i (one_less cs j) x
unfolding tallies one_less
take_off i [] j a x e h = absurd (omega arith)
take_off i (zero ∷ cs) zero a x e h = absurd (omega arith)
take_off i (suc c ∷ cs) zero a x e h = rw (occurrences-same i a x (omega arith), eqb-suc-suc, below (suc i) cs a x (omega arith))
take_off i (c ∷ cs) (suc j) a x e h = rw (occurrences_other i a x (omega arith), take_off (suc i) cs j a x (omega arith) h)

-- a letter before a word has a count, or it is none of those that are counted
letter_or_none : (i : ℕ) (cs : List ℕ) (a : ℕ) (x : Bytes) → tallies i cs (a ∷ x) ≡ true → ((j : ℕ) × (a ≡ i + j) × (0 < get_or cs j 0)) ⊎ (tallies i cs x ≡ true)
unfolding tallies
letter_or_none i [] a x t = inr refl
letter_or_none i (c ∷ cs) a x t =
    let both = and-true (eqb (occurrences i (a ∷ x)) c) (tallies (suc i) cs (a ∷ x)) t in
    step (eqb-true _ _ both.0) (ℕ_discrete i a) (letter_or_none (suc i) cs a x both.1)
  where
    step : occurrences i (a ∷ x) ≡ c → Dec (i ≡ a) → ((j : ℕ) × (a ≡ suc i + j) × (0 < get_or cs j 0)) ⊎ (tallies (suc i) cs x ≡ true)
        → ((j : ℕ) × (a ≡ i + j) × (0 < get_or (c ∷ cs) j 0)) ⊎ (tallies i (c ∷ cs) x ≡ true)
    step has (yes e) later = inl (0, omega arith, omega (arith, occurrences-same i a x e))
    step has (no n) (inl (j, e, h)) = inl (suc j, omega arith, h)
    step has (no n) (inr k) = inr (and_makes (eq-eqb _ _ (sym (occurrences_other i a x n) ∙ has)) k)

nothing_left : (i : ℕ) (cs : List ℕ) → tallies i cs [] ≡ eqb 0 (total cs)
unfolding tallies occurrences total
nothing_left i [] = refl
nothing_left i (zero ∷ cs) = rw (nothing_left (suc i) cs, zero-add)
nothing_left i (suc c ∷ cs) = rw (eqb-zero-suc, suc-add, eqb-zero-suc)

-- a word has room for all the letters that are counted in it
room : (i : ℕ) (cs : List ℕ) (x : Bytes) → tallies i cs x ≡ true → total cs ≤ length x
room i cs [] t = omega (arith, eqb-true 0 (total cs) (sym (nothing_left i cs) ∙ t))
room i cs (a ∷ x) t =
    ⊎_elim (λ (j, e, h). omega (arith, total_less cs j h, room i (one_less cs j) x (sym (take_off i cs j a x e h) ∙ t)))
    (λ k. omega (arith, room i cs x k)) (letter_or_none i cs a x t)

-- the first letter of an anagram, off or put on

pub without-first : (cs : List ℕ) (i a : ℕ) (x : Bytes) → a ≡ suc i → 0 < get_or cs i 0 → is_anagram cs (a ∷ x) ≡ is_anagram (one_less cs i) x
unfolding is_anagram
without-first cs i a x e h = rw (← total_less cs i h, eqb-suc-suc, take_off 1 cs i a x (omega arith) h)

-- a letter that is not counted would leave no room for those that are
pub first_off : (cs : List ℕ) (a : ℕ) (x : Bytes) → is_anagram cs (a ∷ x) ≡ true → (i : ℕ) × (a ≡ suc i) × (0 < get_or cs i 0) × (is_anagram (one_less cs i) x ≡ true)
first_off cs a x o =
    let (l, t) = anagram_cases cs (a ∷ x) o in
    ⊎_elim (λ (i, e, h). let s : a ≡ suc i = omega arith in (i, s, h, sym (without-first cs i a x s h) ∙ o))
    (λ k. absurd (omega (arith, room 1 cs x k))) (letter_or_none 1 cs a x t)

-- the empty word is the anagram of no letters
pub empty_word : (cs : List ℕ) → is_anagram cs [] ≡ eqb 0 (total cs)
unfolding is_anagram
empty_word cs = rw (nothing_left 1 cs) (and_self (eqb 0 (total cs)))

-- a letter that is counted stands in the word
pub stands_in : (cs : List ℕ) (i : ℕ) (x : Bytes) → is_anagram cs x ≡ true → 0 < get_or cs i 0 → Memᴰ (suc i) x
stands_in cs i [] o h = absurd (omega (arith, (anagram_cases cs [] o).0, total_less cs i h))
stands_in cs i (b ∷ x) o h = let (j, e, _, rest) = first_off cs b x o in step j e (ℕ_discrete i j) (stands_in (one_less cs j) i x rest)
  where
    step : (j : ℕ) → b ≡ suc j → Dec (i ≡ j) → (0 < get_or (one_less cs j) i 0 → Memᴰ (suc i) x) → Memᴰ (suc i) (b ∷ x)
    step j e (yes s) later = Memᴰ.head (ap suc s ∙ sym e)
    step j e (no n) later = Memᴰ.tail (later (rw (← one_less-set cs j, get_or-set_other cs j i (get_or cs j 0 - 1) 0 n) h))

-- the letters in another order

same_letters : {x y : Bytes} → Permᴰ x y → (length x ≡ length y) × ((a : ℕ) → occurrences a x ≡ occurrences a y)
unfolding occurrences
same_letters Permᴰ.nil = (refl, λ a. refl)
same_letters (Permᴰ.cons e p) = (ap suc (same_letters p).0, λ a. rw (e, (same_letters p).1 a))
same_letters (Permᴰ.swap e f) = (refl, λ a. rw (e, f) (omega arith))
same_letters (Permᴰ.trans p q) = ((same_letters p).0 ∙ (same_letters q).0, λ a. (same_letters p).1 a ∙ (same_letters q).1 a)

same-tallies : (i : ℕ) (cs : List ℕ) {x y : Bytes} → Permᴰ x y → tallies i cs x ≡ tallies i cs y
unfolding tallies
same-tallies i [] p = refl
same-tallies i (c ∷ cs) p = rw ((same_letters p).1 i, same-tallies (suc i) cs p)

pub rearranged : (cs : List ℕ) {x y : Bytes} → Permᴰ x y → is_anagram cs x ≡ is_anagram cs y
unfolding is_anagram
rearranged cs p = rw ((same_letters p).0, same-tallies 1 cs p)

-- the counts of a permutation of n
pub each_once : (n : ℕ) (cs : List ℕ) → n ≤ places → cs ≡ ones n → (length cs ≤ places) × (n ≡ total cs)
each_once n cs h is = (omega (arith, ap length is, length-replicate {A = ℕ} n 1), sym (ap total is ∙ total-ones n))
