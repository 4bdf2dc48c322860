-- Where a word stands that starts with a given letter: behind the words that start with an earlier one, which are the share s / m of all
-- that the letters in front of it have. And the share as it is computed. Assumes nothing.
use mathlib.Core.Path.{◌≡◌, refl, sym, ◌∙◌, ap}
use mathlib.Core.List.{List, [], ◌∷◌, ◌++◌}
use Prim.Native.Nat.{ℕ, zero, suc, ◌+◌, ◌-◌, ◌*◌, ◌/◌, ◌%◌, ◌≤◌, ◌<◌}
use native.Mathlib.Nat.{add-zero, zero-add, add-suc, suc-add, mul_comm, mul_right_comm, add-mul, mul-add, div-add-mod', mul-add-div_right, mul-div_cancel, add-mul-div_right}
use native.Mathlib.Omega.{arith}
use lib.ListN.{length, take, drop, get_or, set, length-take}
use lib.Seq.{take-append_seam, get_or-take}
use Rattle.basics.specs.Sums.{total, sum_over}
use Rattle.basics.proofs.Ranges.{sum_over_cong, sum_over_times}
use Rattle.basics.proofs.Totals.{total-take-le, total_take_more}
use Rattle.numbers.specs.Numbers.{multinomial_of, one_less, letters_from}
use Rattle.numbers.proofs.Laws.{total_less, one_less_lem, one_less-set, letter_has, letters_total, left-inside}
use Rattle.listings.specs.Places.{At}
use Rattle.listings.proofs.PlaceRules.{at_append_right}
use Rattle.listings.proofs.ChoicePlaces.{at_choice}
use Rattle.listings.specs.Bytes.{Bytes}
use Rattle.anagrams.specs.Listing.{anagrams}
use Rattle.anagrams.proofs.Theorem.{counted}
use Rattle.anagrams.proofs.Places.{others, put, by_letter}

-- the letters in front of a letter that is left, then it and the others
letters_split : (i : ℕ) (cs : List ℕ) (a : ℕ) → 0 < get_or cs a 0 → letters_from i cs ≡ letters_from i (take a cs) ++ ((i + a) ∷ letters_from (suc (i + a)) (drop (suc a) cs))
unfolding letters_from
letters_split i [] a h = absurd (omega arith)
letters_split i (zero ∷ cs) zero h = absurd (omega arith)
letters_split i (suc c ∷ cs) zero h = rw add-zero
letters_split i (zero ∷ cs) (suc a) h = rw (add-suc, ← suc-add) (letters_split (suc i) cs a h)
letters_split i (suc c ∷ cs) (suc a) h = rw (add-suc, ← suc-add, letters_split (suc i) cs a h)

-- the words that start with a letter in front of a
earlier : List ℕ → ℕ → ℕ
earlier cs a = sum_over (letters_from 0 (take a cs)) (λ i. multinomial_of (one_less cs i))

place_behind : (cs : List ℕ) (a r : ℕ) {x : Bytes} → 0 < get_or cs a 0 → At (anagrams (one_less cs a)) x r → At (anagrams cs) (suc a ∷ x) (earlier cs a + r)
unfolding earlier
place_behind cs a r h k =
    let front = letters_from 0 (take a cs) in
    let back = letters_from (suc a) (drop (suc a) cs) in
    let split : letters_from 0 cs ≡ front ++ (a ∷ back) = rw zero-add at (letters_split 0 cs a h) in
    let there : At (letters_from 0 cs) a (length front) = rw split (rw add-zero at (at_append_right front (a ∷ back) 0 refl)) in
    let before : take (length front) (letters_from 0 cs) ≡ front = rw split (take-append_seam front (a ∷ back)) in
    rw (by_letter cs a h) (rw before at (at_choice (letters_from 0 cs) (others cs) put (λ i. counted (one_less cs i)) (length front) r there k))

-- the same as shares of all words

-- a letter that is left in the front is left as often in all
in_front : (cs : List ℕ) (a i : ℕ) → 0 < get_or (take a cs) i 0 → get_or (take a cs) i 0 ≡ get_or cs i 0
in_front cs a i h = get_or-take a cs i 0 (omega (arith, left-inside (take a cs) i h, length-take a cs))

earlier_times : (cs : List ℕ) (a : ℕ) → earlier cs a * total cs ≡ multinomial_of cs * total (take a cs)
unfolding earlier
earlier_times cs a =
    mul_comm _ _
    ∙ sum_over_times _ _ _
    ∙ sum_over_cong _ (λ i k. let h = letter_has (take a cs) k in let e = in_front cs a i h in mul_comm _ _ ∙ one_less_lem cs i (omega arith) ∙ ap (λ n. multinomial_of cs * n) (sym e))
    ∙ sym (sum_over_times _ _ _)
    ∙ ap (λ n. multinomial_of cs * n) (letters_total (take a cs))

pub place_letter : (cs : List ℕ) (a r : ℕ) {x : Bytes} → 0 < get_or cs a 0 → At (anagrams (one_less cs a)) x r → At (anagrams cs) (suc a ∷ x) (multinomial_of cs * total (take a cs) / total cs + r)
place_letter cs a r h k =
    let share : earlier cs a ≡ multinomial_of cs * total (take a cs) / total cs = sym (mul-div_cancel (earlier cs a) (omega (arith, total_less cs a h))) ∙ ap (λ n. n / total cs) (earlier_times cs a) in
    rw share at (place_behind cs a r h k)

pub letter_share : (cs : List ℕ) (a : ℕ) → 0 < get_or cs a 0 → multinomial_of cs * get_or cs a 0 / total cs ≡ multinomial_of (one_less cs a)
letter_share cs a h = ap (λ n. n / total cs) (sym (one_less_lem cs a h)) ∙ mul-div_cancel _ (omega (arith, total_less cs a h))

pub share_more : (cs : List ℕ) (a : ℕ) → 0 < get_or cs a 0
    → multinomial_of cs * total (take (a + 1) cs) / total cs ≡ multinomial_of cs * total (take a cs) / total cs + multinomial_of (one_less cs a)
share_more cs a h = rw (total_take_more cs a (left-inside cs a h), mul-add, ← one_less_lem cs a h) (add-mul-div_right _ _ (omega (arith, total_less cs a h)))

-- the share in two parts, as it is computed

pub share_parts : (words s m : ℕ) → 0 < m → words / m * s + words % m * s / m ≡ words * s / m
share_parts words s m h = sym (mul-add-div_right h _ _) ∙ rw (mul_right_comm (words / m) s m, ← add-mul, div-add-mod')

-- some of the letters
pub ruleset some_letters = (total-take-le, total_take_more)

pub letter_le : (cs : List ℕ) (a : ℕ) → get_or cs a 0 ≤ total cs
unfolding total
letter_le [] a = omega arith
letter_le (c ∷ cs) zero = omega arith
letter_le (c ∷ cs) (suc a) = omega (arith, letter_le cs a)

-- the letter a, which is left c times, is taken: s words of m letters start with it
pub taken : (cs : List ℕ) (a c m words s : ℕ) → c ≡ get_or cs a 0 → 0 < get_or cs a 0 → total cs ≡ m → words ≡ multinomial_of cs → s ≡ words * c / m
    → (total (set cs a (get_or cs a 0 - 1)) ≡ m - 1) × (s ≡ multinomial_of (set cs a (get_or cs a 0 - 1)))
taken cs a c m words s is h t w e = rw one_less-set (omega (arith, total_less cs a h), e ∙ rw (is, w, ← t) (letter_share cs a h))
