-- The multinomials: one letter less, the sum over the letters, and how they grow.
-- Assumes nothing.
use mathlib.Core.Path.{◌≡◌, refl, sym, ◌∙◌, ap}
use mathlib.Core.Logic.{⊎_elim}
use mathlib.Core.List.Memᴰ
use mathlib.Core.List.{List, [], ◌∷◌, map, Memᴰ}
use Prim.Native.Nat.{ℕ, zero, suc, ◌+◌, ◌-◌, ◌*◌, ◌≤◌, ◌<◌}
use native.Mathlib.Nat.{zero-add, add-zero, suc-add, mul_comm, mul_assoc, mul_left_comm, mul_right_comm, one-le-mul, le_refl, le_trans, le-mul_of_pos_right, lt_of_not-le, one-mul, eq_of_mul-eq-mul_left, le-add_right}
use native.Mathlib.Numerals.{one-add, sub-one}
use native.Mathlib.Omega.{arith}
use lib.ListN.{length, get_or, set, drop, replicate, length-set, get_or-eq_default}
use Rattle.basics.specs.Sums.{total, sum_over}
use Rattle.numbers.specs.Numbers.{choose, factorial_of, multinomial_of, one_less, letters_from}
use Rattle.basics.proofs.Ranges.{sum_over_cong, sum_over_times, sum_over-map, member_le}
use Rattle.numbers.proofs.Binomials.{choose-positive, choose-zero, choose_one, absorb, absorb_rest}

pub total_less : (cs : List ℕ) (i : ℕ) → 0 < get_or cs i 0 → suc (total (one_less cs i)) ≡ total cs
unfolding total one_less
total_less [] i h = omega arith
total_less (c ∷ cs) zero h = omega arith
total_less (c ∷ cs) (suc i) h = omega (arith, total_less cs i h)

places-positive : (c t : ℕ) → 1 ≤ choose (c + t) c
places-positive c t = choose-positive (c + t) c (le-add_right c t)

pub multinomial_positive : (cs : List ℕ) → 1 ≤ multinomial_of cs
unfolding multinomial_of
multinomial_positive [] = le_refl 1
multinomial_positive (c ∷ cs) = one-le-mul (places-positive c (total cs)) (multinomial_positive cs)

-- two products that agree because their factors do, crosswise
cross : (a b m m' p q g : ℕ) → p * b ≡ q * a → m' * p ≡ m * g → a * m' * q ≡ b * m * g
cross a b m m' p q g e e' = rw (mul_right_comm a m' q, mul_comm a q, ← e, mul_assoc p b m', mul_left_comm p b m', mul_comm p m', e', mul_assoc b m g)

-- the multinomial with one letter less, times the length, is the multinomial times that letter's count
pub one_less_lem : (cs : List ℕ) (i : ℕ) → 0 < get_or cs i 0 → multinomial_of (one_less cs i) * total cs ≡ multinomial_of cs * get_or cs i 0
unfolding multinomial_of one_less total
one_less_lem [] i h = refl
one_less_lem (zero ∷ cs) zero h = omega arith
one_less_lem (suc c ∷ cs) zero h = cross _ _ _ _ (suc c) _ _ (rw suc-add (absorb (c + total cs) c)) refl
one_less_lem (c ∷ cs) (suc i) h = cross _ _ _ _ (total cs) _ _ (rw (total_less cs i h) at (absorb_rest c (total (one_less cs i)))) (one_less_lem cs i h)

-- the letters of a longer list are those of its tail, moved on by one
letters_suc : (a : ℕ) (cs : List ℕ) → letters_from (suc a) cs ≡ map suc (letters_from a cs)
unfolding letters_from
letters_suc a [] = refl
letters_suc a (zero ∷ cs) = letters_suc (suc a) cs
letters_suc a (suc c ∷ cs) = rw (letters_suc (suc a) cs)

later : (a c : ℕ) (cs : List ℕ) {i : ℕ} → (j : ℕ) × (i ≡ suc a + j) × (0 < get_or cs j 0) → (j : ℕ) × (i ≡ a + j) × (0 < get_or (c ∷ cs) j 0)
later a c cs (j, e, h) = (suc j, omega arith, h)

-- every letter has a count left
pub letter_left : (a : ℕ) (cs : List ℕ) {i : ℕ} → Memᴰ i (letters_from a cs) → (j : ℕ) × (i ≡ a + j) × (0 < get_or cs j 0)
unfolding letters_from
letter_left a [] m = absurd (Memᴰ.not-nil m)
letter_left a (zero ∷ cs) m = later a 0 cs (letter_left (suc a) cs m)
letter_left a (suc c ∷ cs) m = ⊎_elim (λ e. (0, omega arith, omega arith)) (λ m. later a (suc c) cs (letter_left (suc a) cs m)) (Memᴰ.cases_cons m)

-- and every count that is left is a letter's
pub left_letter : (a : ℕ) (cs : List ℕ) (j : ℕ) → 0 < get_or cs j 0 → Memᴰ (a + j) (letters_from a cs)
unfolding letters_from
left_letter a [] j h = absurd (omega arith)
left_letter a (zero ∷ cs) zero h = absurd (omega arith)
left_letter a (zero ∷ cs) (suc j) h = Memᴰ.cast (omega arith) (left_letter (suc a) cs j h)
left_letter a (suc c ∷ cs) zero h = Memᴰ.head (add-zero a)
left_letter a (suc c ∷ cs) (suc j) h = Memᴰ.tail (Memᴰ.cast (omega arith) (left_letter (suc a) cs j h))

-- the two facts for a whole list, whose letters count from 0
pub letter_has : (cs : List ℕ) {i : ℕ} → Memᴰ i (letters_from 0 cs) → 0 < get_or cs i 0
letter_has cs m = let (j, e, h) = letter_left 0 cs m in rw (e, zero-add) h

pub has_letter : (cs : List ℕ) (i : ℕ) → 0 < get_or cs i 0 → Memᴰ i (letters_from 0 cs)
has_letter cs i h = rw zero-add at (left_letter 0 cs i h)

-- a letter with no count adds nothing
pub letters_total : (cs : List ℕ) → sum_over (letters_from 0 cs) (λ i. get_or cs i 0) ≡ total cs
unfolding letters_from total sum_over
letters_total [] = refl
letters_total (zero ∷ cs) = rw (letters_suc 0 cs, sum_over-map, letters_total cs, zero-add)
letters_total (suc c ∷ cs) = rw (letters_suc 0 cs, sum_over-map, letters_total cs)

-- times the length, each letter gives the multinomial as often as its count says
letters_times : (cs : List ℕ) → total cs * multinomial_of cs ≡ total cs * sum_over (letters_from 0 cs) (λ i. multinomial_of (one_less cs i))
letters_times cs =
    mul_comm _ _
    ∙ ap (λ t. multinomial_of cs * t) (sym (letters_total cs))
    ∙ sum_over_times _ _ _
    ∙ sum_over_cong _ (λ i m. sym (one_less_lem cs i (letter_has cs m)) ∙ mul_comm _ _)
    ∙ sym (sum_over_times _ _ _)

-- a word begins with a letter that has a count, and a word of what is left follows
pub over_letters : (cs : List ℕ) → 0 < total cs → multinomial_of cs ≡ sum_over (letters_from 0 cs) (λ i. multinomial_of (one_less cs i))
over_letters cs h = eq_of_mul-eq-mul_left (total cs) h _ _ (letters_times cs)

pub one_less-le : (cs : List ℕ) (i : ℕ) → 0 < get_or cs i 0 → multinomial_of (one_less cs i) ≤ multinomial_of cs
one_less-le cs i h = rw (over_letters cs (omega (arith, total_less cs i h))) (member_le (λ i. multinomial_of (one_less cs i)) (has_letter cs i h))

pub drop_le : (cs : List ℕ) (i : ℕ) → multinomial_of (drop i cs) ≤ multinomial_of cs
unfolding multinomial_of
drop_le cs zero = le_refl _
drop_le [] (suc i) = le_refl 1
drop_le (c ∷ cs) (suc i) = le_trans (drop_le cs i) (rw mul_comm (le-mul_of_pos_right _ (places-positive c (total cs))))

pub head-le : (c : ℕ) (cs : List ℕ) → choose (c + total cs) c ≤ multinomial_of (c ∷ cs)
unfolding multinomial_of
head-le c cs = le-mul_of_pos_right _ (multinomial_positive cs)

pub total-ones : (n : ℕ) → total (replicate n 1) ≡ n
unfolding total
total-ones zero = refl
total-ones (suc n) = omega (arith, total-ones n)

-- a permutation is the word with every letter once
pub multinomial_ones : (n : ℕ) → multinomial_of (replicate n 1) ≡ factorial_of n
unfolding multinomial_of factorial_of
multinomial_ones zero = refl
multinomial_ones (suc n) = rw (choose_one, total-ones n, multinomial_ones n, one-add)

-- no letters make one word, the empty one
pub one_empty : (cs : List ℕ) → total cs ≡ 0 → multinomial_of cs ≡ 1
unfolding multinomial_of total
one_empty [] s = refl
one_empty (zero ∷ cs) s = rw (choose-zero, one-mul) (one_empty cs (omega arith))
one_empty (suc c ∷ cs) s = absurd (omega arith)

-- a letter less, as it is stored
pub one_less-set : (cs : List ℕ) (i : ℕ) → set cs i (get_or cs i 0 - 1) ≡ one_less cs i
unfolding one_less
one_less-set [] i = refl
one_less-set (c ∷ cs) zero = rw sub-one
one_less-set (c ∷ cs) (suc i) = ap (λ l. c ∷ l) (one_less-set cs i)

pub length-one_less : (cs : List ℕ) (i : ℕ) → length (one_less cs i) ≡ length cs
length-one_less cs i = ap length (sym (one_less-set cs i)) ∙ length-set cs i (get_or cs i 0 - 1)

-- a letter that is left has a place among the counts
pub left-inside : (cs : List ℕ) (a : ℕ) → 0 < get_or cs a 0 → a < length cs
left-inside cs a h = lt_of_not-le (λ l. omega (arith, get_or-eq_default cs 0 {n = a} l))
