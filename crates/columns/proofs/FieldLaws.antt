-- Digit by digit what a field reads: it is a number of no more digits than the field is wide, and it is the number that a column shows.
-- Assumes nothing.
use mathlib.Core.Path.{◌≡◌, refl, ◌∙◌, ap}
use mathlib.Core.Bool.{Bool, true, false, ◌&&◌, cond, and-false}
use mathlib.Core.Option.{Option, none, some, some-injective, none-ne-some}
use mathlib.Core.List.{[], ◌∷◌, ◌++◌}
use Prim.Native.Nat.{ℕ, zero, suc, ◌+◌, ◌-◌, ◌*◌, ◌^◌, ◌/◌, ◌%◌, ◌≤◌, ◌<◌}
use native.Mathlib.Nat.{pow-suc, one-le-pow, pow-le-pow_right, add-suc, suc-add, zero-add, add-zero}
use native.Mathlib.Numerals.{add-one, sub-one}
use native.Mathlib.Decide.{dec_lt}
use native.Mathlib.Omega.{arith}
use lib.Dec.{leb, eqb}
use lib.ListN.{length, get_or, take, drop, replicate, length-drop, drop_of_length-le}
use lib.Seq.{drop-cons, take_all}
use borrow.Author.Tests.{le-leb, lt-leb, leb-true, eq-eqb, ne_eqb}
use Rattle.listings.specs.Bytes.{Bytes}
use Rattle.basics.proofs.Bools.{and-true}
use Rattle.columns.specs.Columns.{blank, column}
use Rattle.columns.specs.Fields.{field_width, largest_field, digits, field}
use Rattle.columns.proofs.ColumnLaws.{column_digit, column-digits}

-- a digit is read
digit_read : (v b : ℕ) (x : Bytes) → 48 ≤ b → b ≤ 57 → digits v (b ∷ x) ≡ digits (10 * v + (b - 48)) x
unfolding digits
digit_read v b x l h = rw (le-leb 48 b l, le-leb b 57 h)

-- from a place on: a digit, another byte, or the end
pub digits_at : (x : Bytes) (i v : ℕ) → i < length x → 48 ≤ get_or x i 0 → get_or x i 0 ≤ 57 → digits v (drop i x) ≡ digits (10 * v + (get_or x i 0 - 48)) (drop (i + 1) x)
digits_at x i v h l k = rw (add-one, drop-cons x i 0) (digit_read v (get_or x i 0) (drop (suc i) x) l k)

pub digits_below : (x : Bytes) (i v : ℕ) → i < length x → get_or x i 0 < 48 → digits v (drop i x) ≡ none
unfolding digits
digits_below x i v h l = rw (drop-cons x i 0, lt-leb 48 (get_or x i 0) l)

pub digits_above : (x : Bytes) (i v : ℕ) → i < length x → 57 < get_or x i 0 → digits v (drop i x) ≡ none
unfolding digits
digits_above x i v h l = rw (drop-cons x i 0, lt-leb (get_or x i 0) 57 l, and-false)

pub digits_end : (x : Bytes) (i v : ℕ) → length x ≤ i → digits v (drop i x) ≡ some v
unfolding digits
digits_end x i v h = rw drop_of_length-le

-- a digit more, and a place more
pub grown : (v b i : ℕ) → v < 10 ^ i → b ≤ 57 → 10 * v + (b - 48) < 10 ^ (i + 1)
grown v b i h l = rw (add-one, pow-suc) (omega arith)

only_if : {A : Type 0} (b : Bool) {o : Option A} {a : A} → cond b o none ≡ some a → (b ≡ true) × (o ≡ some a)
only_if true e = (refl, e)
only_if false {a = a} e = absurd (none-ne-some a e)

number_below : (x : Bytes) (v i w : ℕ) → v < 10 ^ i → digits v x ≡ some w → w < 10 ^ (length x + i)
unfolding digits
number_below [] v i w h e = rw (zero-add, ← some-injective v w e) h
number_below (b ∷ x) v i w h e =
    let t = only_if (leb 48 b && leb b 57) e in
    let l : b ≤ 57 = leb-true b 57 (and-true (leb 48 b) (leb b 57) t.0).1 in
    rw (suc-add, ← add-suc) (number_below x (10 * v + (b - 48)) (suc i) w (rw add-one at (grown v b i h l)) t.1)

-- the three cases of a field: what follows in each follows, also of the case itself
chosen : (P : Option ℕ → Type 0) (p q : Bool) {s l n s' l' n' : Option ℕ} {w : ℕ} → cond p s (cond q l n) ≡ some w → (s ≡ some w → P s') → (l ≡ some w → P l') → (n ≡ some w → P n') → P (cond p s' (cond q l' n'))
chosen P true q e f g h = f e
chosen P false true e f g h = g e
chosen P false false e f g h = h e

-- a field is below the first number that is wider
pub field_below : (x : Bytes) (w : ℕ) → field x ≡ some w → w < 10 ^ length x
unfolding field
field_below [] w e = absurd (none-ne-some w e)
field_below (b ∷ x) w e = chosen (λ _. w < 10 ^ length (b ∷ x)) (eqb b blank) (eqb b 48) {s' = none} {l' = none} {n' = none} e
    (λ s. rw pow-suc (omega (arith, field_below x w s)))
    (λ l. rw (← some-injective 0 w (only_if (eqb (length x) 0) l).1) (one-le-pow (suc (length x)) 10 (omega arith)))
    (λ n. rw add-zero at (number_below (b ∷ x) 0 0 w (omega arith) n))

-- "in 4 columns"
pub field_small : (x : Bytes) (w : ℕ) → length x ≤ field_width → field x ≡ some w → w ≤ largest_field
field_small x w h e =
    let p : 10 ^ length x ≤ 10000 = pow-le-pow_right {n = 10} (omega arith) h in
    omega (arith, field_below x w e)

-- one more digit at the end
digits_more : (x : Bytes) (v m d : ℕ) → d < 10 → digits v x ≡ some m → digits v (x ++ ((48 + d) ∷ [])) ≡ some (10 * m + d)
unfolding digits
digits_more [] v m d h e =
    digit_read v (48 + d) [] (omega arith) (omega arith) ∙ ap some (omega (arith, some-injective v m e))
digits_more (b ∷ x) v m d h e =
    let t = only_if (leb 48 b && leb b 57) e in
    rw t.0 (digits_more x (10 * v + (b - 48)) m d h t.1)

field-more : (x : Bytes) (m d : ℕ) → 0 < m → d < 10 → field x ≡ some m → field (x ++ ((48 + d) ∷ [])) ≡ some (10 * m + d)
unfolding field
field-more [] m d p h e = absurd (none-ne-some m e)
field-more (b ∷ x) m d p h e = chosen (λ o. o ≡ some (10 * m + d)) (eqb b blank) (eqb b 48) e
    (field-more x m d p h)
    (λ l. absurd (omega (arith, some-injective 0 m (only_if (eqb (length x) 0) l).1)))
    (digits_more (b ∷ x) 0 m d h)

-- `x[a..]`, as the code cuts it out
pub rest_is : (x : Bytes) (a : ℕ) → take (length x - a) (drop a x) ≡ drop a x
rest_is x a = take_all (length x - a) (drop a x) (simp length-drop (omega arith))

-- a field by its length and its first byte
pub field-none : (x : Bytes) → length x ≡ 0 → field x ≡ none
unfolding field
field-none [] e = refl
field-none (b ∷ x) e = absurd (omega arith)

pub field_blank : (x : Bytes) → get_or x 0 0 ≡ blank → field (take (length x - 1) (drop 1 x)) ≡ field x
unfolding field
field_blank [] e = refl
field_blank (b ∷ x) e = rw (eq-eqb b blank e) (ap field (rest_is (b ∷ x) 1))

pub field_lone : (x : Bytes) → length x ≡ 1 → get_or x 0 0 ≡ 48 → field x ≡ some 0
unfolding field
field_lone [] l e = absurd (omega arith)
field_lone (b ∷ x) l e = rw (eq-eqb b 48 e, ne_eqb b blank (λ f. omega arith), eq-eqb (length x) 0 (omega arith))

pub field_leading : (x : Bytes) → (length x ≡ 1 → ⊥) → get_or x 0 0 ≡ 48 → field x ≡ none
unfolding field
field_leading [] l e = refl
field_leading (b ∷ x) l e = rw (eq-eqb b 48 e, ne_eqb b blank (λ f. omega arith), ne_eqb (length x) 0 (λ f. l (omega arith)))

pub field-number : (x : Bytes) → (length x ≡ 0 → ⊥) → (get_or x 0 0 ≡ blank → ⊥) → (get_or x 0 0 ≡ 48 → ⊥) → field x ≡ digits 0 x
unfolding field
field-number [] l h k = absurd (l refl)
field-number (b ∷ x) l h k = rw (ne_eqb b blank h, ne_eqb b 48 k)

field_digit : (n : ℕ) → n < 10 → field ((48 + n) ∷ []) ≡ some n
unfolding field digits
field_digit zero h = refl
field_digit (suc n) h =
    field-number ((48 + suc n) ∷ []) (λ e. omega arith) (λ e. omega arith) (λ e. omega arith) ∙ digits_more [] 0 0 (suc n) h refl ∙ ap some (omega arith)

after_blanks : (k : ℕ) (x : Bytes) → field (replicate k blank ++ x) ≡ field x
unfolding field
after_blanks zero x = refl
after_blanks (suc k) x = after_blanks k x

digit_back : (w n : ℕ) → n < 10 → field (column (suc w) n) ≡ some n
digit_back w n l = rw (column_digit (suc w) n (λ e. omega arith) l) (after_blanks (suc w - 1) ((48 + n) ∷ []) ∙ field_digit n l)

digits-back : (w n : ℕ) → 10 ≤ n → field (column w (n / 10)) ≡ some (n / 10) → field (column (suc w) n) ≡ some n
digits-back w n l e =
    rw (column-digits (suc w) n (λ e. omega arith) l, sub-one)
    (field-more (column w (n / 10)) (n / 10) (n % 10) (omega arith) (omega arith) e ∙ ap some (omega arith))

-- a field reads what a column shows, at every width
pub reads_back : (w n : ℕ) → n < 10 ^ suc w → field (column (suc w) n) ≡ some n
reads_back zero n h = digit_back zero n h
reads_back (suc w) n h = elim (dec_lt n 10) [
  | yes l ↦ digit_back (suc w) n l
  | no k ↦ digits-back (suc w) n (omega arith) (reads_back w (n / 10) (omega (arith, pow-suc 10 (suc w))))
]

-- digit by digit
pub ruleset digit_cases = (digits_below, digits_above, digits_end)

-- a field by its first byte
pub ruleset field_cases = (field-none, field_blank, field_lone, field_leading, field-number)
