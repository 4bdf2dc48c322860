-- Derangements as functions from 1 .. n to 1 .. n: what the test says of each image, that it says no more, and byte strings by their images.
-- Assumes nothing.
use mathlib.Core.Path.{◌≡◌, refl, sym, ◌∙◌, ap, subst}
use mathlib.Core.Bool.{true, false, not}
use mathlib.Core.List.{List, [], ◌∷◌}
use Prim.Native.Nat.{ℕ, zero, suc, ◌+◌, ◌-◌, ◌≤◌, ◌<◌}
use native.Mathlib.Nat.{add-zero}
use native.Mathlib.Numerals.{add-one}
use native.Mathlib.Decide.{dec_lt, ℕ_discrete}
use native.Mathlib.Omega.{arith}
use lib.Dec.{eqb}
use lib.ListN.{length, get_or, drop, length-map, length-replicate, drop_of_length-le, get_or-eq_default}
use lib.Seq.{ext_get_or, drop-cons}
use borrow.Author.Tests.{eqb-true, eqb-false, eq-eqb, ne_eqb, not-true}
use Rattle.basics.specs.Sums.{range, total}
use Rattle.basics.proofs.Bools.{and-true, and_makes, or_fails}
use Rattle.basics.proofs.Ranges.{length-range, get_d_map_range}
use Rattle.numbers.specs.Numbers.{one_less}
use Rattle.numbers.proofs.Laws.{total-ones}
use Rattle.listings.specs.Bytes.{Bytes}
use Rattle.anagrams.specs.Objects.{occurrences, tallies, is_anagram}
use Rattle.anagrams.specs.Permutations.{ones}
use Rattle.anagrams.proofs.Facts.{anagram_cases, first_off, occurrences-same, occurrences_other}
use Rattle.derangements.specs.Cycles.{image, images}
use Rattle.derangements.specs.Objects.{has_fixed_point, is_derangement}

-- one of 1 .. n
pub record Among (n i : ℕ) : Type 0 where
  pub from : 1 ≤ i
  pub upto : i ≤ n

-- byte strings by their images

pub images-long : (n : ℕ) (f : ℕ → ℕ) → length (images n f) ≡ n
images-long n f = length-map (range 1 n) f ∙ length-range 1 n

pub image_of : (n : ℕ) (f : ℕ → ℕ) (i : ℕ) → Among n i → image (images n f) i ≡ f i
image_of n f i a = get_d_map_range f 1 n (i - 1) 0 (omega (arith, a)) ∙ ap f (omega (arith, a))

pub same-images : (n : ℕ) (x y : Bytes) → length x ≡ n → length y ≡ n → ((i : ℕ) → Among n i → image x i ≡ image y i) → x ≡ y
same-images n x y long long' same = ext_get_or 0 x y (long ∙ sym long') (λ i h. subst (λ j. get_or x j 0 ≡ get_or y j 0) (omega arith) (same (suc i) (omega arith)))

-- f takes 1 .. n to 1 .. n, each to another, and every one is taken just once
pub record Deranges (n : ℕ) (f : ℕ → ℕ) : Type 0 where
  pub values : (i : ℕ) → Among n i → Among n (f i)
  pub moves : (i : ℕ) → Among n i → f i ≡ i → ⊥
  pub once : (i j : ℕ) → Among n i → Among n j → f i ≡ f j → i ≡ j
  pub onto : (v : ℕ) → Among n v → (i : ℕ) × Among n i × (f i ≡ v)

pub deranges_same : {n : ℕ} {f g : ℕ → ℕ} → ((i : ℕ) → Among n i → f i ≡ g i) → Deranges n g → Deranges n f
deranges_same same d = record {
  values = λ i a. rw (same i a) (d.values i a);
  moves = λ i a e. d.moves i a (sym (same i a) ∙ e);
  once = λ i j a b e. d.once i j a b (sym (same i a) ∙ e ∙ same j b);
  onto = λ v a. let (i, b, e) = d.onto v a in (i, b, same i b ∙ e);
}

pub record Deranged (n : ℕ) (x : Bytes) : Type 0 where
  pub long : length x ≡ n
  pub by : Deranges n (image x)

pub images_deranged : (n : ℕ) (f : ℕ → ℕ) → Deranges n f → Deranged n (images n f)
images_deranged n f d = record { long = images-long n f; by = deranges_same (image_of n f) d }

-- fixed points, with the places counted from k

unfixed : (k : ℕ) (x : Bytes) → has_fixed_point k x ≡ false → (i : ℕ) → i < length x → get_or x i 0 ≡ k + i → ⊥
unfolding has_fixed_point
unfixed k [] h i l e = omega arith
unfixed k (b ∷ x) h zero l e = eqb-false k b (or_fails (eqb k b) (has_fixed_point (suc k) x) h).0 (omega arith)
unfixed k (b ∷ x) h (suc i) l e = unfixed (suc k) x (or_fails (eqb k b) (has_fixed_point (suc k) x) h).1 i (omega arith) (omega arith)

makes_unfixed : (k : ℕ) (x : Bytes) → ((i : ℕ) → i < length x → get_or x i 0 ≡ k + i → ⊥) → has_fixed_point k x ≡ false
unfolding has_fixed_point
makes_unfixed k [] h = refl
makes_unfixed k (b ∷ x) h = rw (ne_eqb k b (λ e. h 0 (omega arith) (omega arith))) (makes_unfixed (suc k) x (λ i l e. h (suc i) (omega arith) (omega arith)))

-- how often a letter stands in a word, and where

some-place : (a : ℕ) (x : Bytes) → 0 < occurrences a x → (i : ℕ) × (i < length x) × (get_or x i 0 ≡ a)
unfolding occurrences
some-place a [] h = absurd (omega arith)
some-place a (b ∷ x) h = step (ℕ_discrete a b) (some-place a x)
  where
    step : Dec (a ≡ b) → (0 < occurrences a x → (i : ℕ) × (i < length x) × (get_or x i 0 ≡ a)) → (i : ℕ) × (i < length (b ∷ x)) × (get_or (b ∷ x) i 0 ≡ a)
    step (yes e) later = (0, omega arith, sym e)
    step (no n) later = let (i, l, e) = later (omega (arith, h, occurrences_other a b x n)) in (suc i, omega arith, e)

stands : (a : ℕ) (x : Bytes) (i : ℕ) → i < length x → get_or x i 0 ≡ a → 0 < occurrences a x
stands a [] i l e = absurd (omega arith)
stands a (b ∷ x) zero l e = omega (arith, occurrences-same a b x (sym e))
stands a (b ∷ x) (suc i) l e = step (ℕ_discrete a b) (stands a x i (omega arith) e)
  where
    step : Dec (a ≡ b) → 0 < occurrences a x → 0 < occurrences a (b ∷ x)
    step (yes q) h = omega (arith, occurrences-same a b x q)
    step (no n) h = omega (arith, occurrences_other a b x n)

one_place : (a : ℕ) (x : Bytes) → occurrences a x ≡ 1 → (i j : ℕ) → i < length x → j < length x → get_or x i 0 ≡ a → get_or x j 0 ≡ a → i ≡ j
one_place a [] h i j k l d e = absurd (omega arith)
one_place a (b ∷ x) h zero zero k l d e = refl
one_place a (b ∷ x) h zero (suc j) k l d e = absurd (omega (arith, h, occurrences-same a b x (sym d), stands a x j (omega arith) e))
one_place a (b ∷ x) h (suc i) zero k l d e = absurd (omega (arith, h, occurrences-same a b x (sym e), stands a x i (omega arith) d))
one_place a (b ∷ x) h (suc i) (suc j) k l d e = step (ℕ_discrete a b) (one_place a x)
  where
    step : Dec (a ≡ b) → (occurrences a x ≡ 1 → (i j : ℕ) → i < length x → j < length x → get_or x i 0 ≡ a → get_or x j 0 ≡ a → i ≡ j) → suc i ≡ suc j
    step (yes q) later = absurd (omega (arith, h, occurrences-same a b x q, stands a x i (omega arith) d))
    step (no n) later = ap suc (later (sym (occurrences_other a b x n) ∙ h) i j (omega arith) (omega arith) d e)

no_place : (a : ℕ) (x : Bytes) → ((i : ℕ) → i < length x → get_or x i 0 ≡ a → ⊥) → occurrences a x ≡ 0
unfolding occurrences
no_place a [] h = refl
no_place a (b ∷ x) h = occurrences_other a b x (λ e. h 0 (omega arith) (sym e)) ∙ no_place a x (λ i l e. h (suc i) (omega arith) e)

just_one : (a : ℕ) (x : Bytes) (p : ℕ) → p < length x → get_or x p 0 ≡ a → ((i : ℕ) → i < length x → get_or x i 0 ≡ a → i ≡ p) → occurrences a x ≡ 1
just_one a [] p l e only = absurd (omega arith)
just_one a (b ∷ x) zero l e only = occurrences-same a b x (sym e) ∙ ap suc (no_place a x (λ i h d. omega (arith, only (suc i) (omega arith) d)))
just_one a (b ∷ x) (suc p) l e only =
    occurrences_other a b x (λ d. omega (arith, only 0 (omega arith) (sym d)))
    ∙ just_one a x p (omega arith) e (λ i h d. omega (arith, only (suc i) (omega arith) d))

-- each letter once

each_once : (k n : ℕ) (x : Bytes) → tallies k (ones n) x ≡ true → (j : ℕ) → j < n → occurrences (k + j) x ≡ 1
unfolding tallies
each_once k zero x t j h = absurd (omega arith)
each_once k (suc n) x t zero h = rw add-zero (eqb-true _ _ (and-true (eqb (occurrences k x) 1) (tallies (suc k) (ones n) x) t).0)
each_once k (suc n) x t (suc j) h = subst (λ a. occurrences a x ≡ 1) (omega arith) (each_once (suc k) n x (and-true (eqb (occurrences k x) 1) (tallies (suc k) (ones n) x) t).1 j (omega arith))

makes_once : (k n : ℕ) (x : Bytes) → ((j : ℕ) → j < n → occurrences (k + j) x ≡ 1) → tallies k (ones n) x ≡ true
unfolding tallies
makes_once k zero x h = refl
makes_once k (suc n) x h = and_makes (eq-eqb _ _ (rw add-zero at (h 0 (omega arith)))) (makes_once (suc k) n x (λ j l. subst (λ a. occurrences a x ≡ 1) (omega arith) (h (suc j) (omega arith))))

-- each letter of a word has a count

less_counted : (cs : List ℕ) (j v : ℕ) → 0 < get_or (one_less cs j) v 0 → 0 < get_or cs v 0
unfolding one_less
less_counted [] j v h = h
less_counted (zero ∷ cs) zero zero h = h
less_counted (suc c ∷ cs) zero zero h = omega arith
less_counted (c ∷ cs) zero (suc v) h = h
less_counted (c ∷ cs) (suc j) zero h = h
less_counted (c ∷ cs) (suc j) (suc v) h = less_counted cs j v h

counted_letter : (cs : List ℕ) (x : Bytes) → is_anagram cs x ≡ true → (i : ℕ) → i < length x → (j : ℕ) × (get_or x i 0 ≡ suc j) × (0 < get_or cs j 0)
counted_letter cs [] o i l = absurd (omega arith)
counted_letter cs (a ∷ x) o zero l = let (j, e, h, _) = first_off cs a x o in (j, e, h)
counted_letter cs (a ∷ x) o (suc i) l =
    let (k, _, _, rest) = first_off cs a x o in
    let (j, e, h) = counted_letter (one_less cs k) x rest i (omega arith) in
    (j, e, less_counted cs k j h)

one_of : (n j : ℕ) → 0 < get_or (ones n) j 0 → j < n
one_of n j h = elim (dec_lt j n) [ yes l ↦ l | no l ↦ absurd (omega (arith, h, get_or-eq_default (ones n) 0 {n = j} (rw length-replicate (omega arith)))) ]

-- the test says all this

pub deranged : (n : ℕ) (x : Bytes) → is_derangement n x ≡ true → Deranged n x
unfolding is_derangement
deranged n x o = record {
  long = long;
  by = record {
    values = values;
    moves = λ i a e. unfixed 1 x (not-true (has_fixed_point 1 x) both.1) (i - 1) (omega (arith, a, long)) (omega (arith, a, e));
    once = λ i j a b e. let p = one_place (image x i) x (once i a) (i - 1) (j - 1) (omega (arith, a, long)) (omega (arith, b, long)) refl (sym e) in omega (arith, a, b, p);
    onto = λ v a. let (i, l, e) = some-place v x (omega (arith, this v a)) in (suc i, omega (arith, l, long), subst (λ j. get_or x j 0 ≡ v) (omega arith) e);
  };
}
  where
    both : (is_anagram (ones n) x ≡ true) × (not (has_fixed_point 1 x) ≡ true)
    both = and-true (is_anagram (ones n) x) (not (has_fixed_point 1 x)) o

    word : (length x ≡ total (ones n)) × (tallies 1 (ones n) x ≡ true)
    word = anagram_cases (ones n) x both.0

    long : length x ≡ n
    long = word.0 ∙ total-ones n

    values : (i : ℕ) → Among n i → Among n (image x i)
    values i a = let (j, e, h) = counted_letter (ones n) x both.0 (i - 1) (omega (arith, a, long)) in omega (arith, e, one_of n j h)

    this : (v : ℕ) → Among n v → occurrences v x ≡ 1
    this v a = subst (λ b. occurrences b x ≡ 1) (omega (arith, a)) (each_once 1 n x word.1 (v - 1) (omega (arith, a)))

    once : (i : ℕ) → Among n i → occurrences (image x i) x ≡ 1
    once i a = this (image x i) (values i a)

-- and no more
pub derangement : (n : ℕ) (x : Bytes) → Deranged n x → is_derangement n x ≡ true
unfolding is_derangement is_anagram
derangement n x d = and_makes (and_makes (eq-eqb _ _ (d.long ∙ sym (total-ones n))) (makes_once 1 n x once)) (rw unfixed_too)
  where
    place : (i : ℕ) → i < length x → Among n (suc i)
    place i l = omega (arith, l, d.long)

    at : (i : ℕ) → image x (suc i) ≡ get_or x i 0
    at i = ap (λ j. get_or x j 0) (omega arith)

    once : (j : ℕ) → j < n → occurrences (1 + j) x ≡ 1
    once j h =
        let (i, a, e) = d.by.onto (1 + j) (omega arith) in
        just_one (1 + j) x (i - 1) (omega (arith, a, d.long)) e (λ p l q. let r = d.by.once (suc p) i (place p l) a (at p ∙ q ∙ sym e) in omega (arith, r))

    unfixed_too : has_fixed_point 1 x ≡ false
    unfixed_too = makes_unfixed 1 x (λ i l e. d.by.moves (suc i) (place i l) (at i ∙ e ∙ omega arith))

-- fixed points read from the front, at place i from 0

pub fixed_here : (x : Bytes) (i : ℕ) → i < length x → get_or x i 0 ≡ i + 1 → has_fixed_point (i + 1) (drop i x) ≡ true
unfolding has_fixed_point
fixed_here x i h e = rw (drop-cons x i 0 h, eq-eqb (i + 1) (get_or x i 0) (sym e))

pub unfixed_here : (x : Bytes) (i : ℕ) → i < length x → (get_or x i 0 ≡ i + 1 → ⊥) → has_fixed_point (i + 1) (drop i x) ≡ has_fixed_point (i + 1 + 1) (drop (i + 1) x)
unfolding has_fixed_point
unfixed_here x i h n = rw (drop-cons x i 0 h, ne_eqb (i + 1) (get_or x i 0) (λ e. n (sym e)), add-one i, add-one (suc i))

pub none_fixed : (x : Bytes) (i : ℕ) → length x ≤ i → has_fixed_point (i + 1) (drop i x) ≡ false
unfolding has_fixed_point
none_fixed x i h = rw (drop_of_length-le x {i = i} h)
