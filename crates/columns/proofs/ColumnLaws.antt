-- A column by its number's last digit, and how wide it is.
-- Assumes nothing.
use mathlib.Core.Path.{◌≡◌, refl}
use mathlib.Core.Bool.{Bool, true, false, cond}
use mathlib.Core.List.{[], ◌∷◌, ◌++◌}
use Prim.Native.Nat.{ℕ, zero, suc, ◌+◌, ◌-◌, ◌/◌, ◌%◌, ◌≤◌, ◌<◌}
use native.Mathlib.Nat.{div-eq_of_lt, mod-eq_of_lt}
use native.Mathlib.Numerals.{add-one, sub-one}
use native.Mathlib.Omega.{arith}
use lib.Dec.{eqb}
use lib.ListN.{length, replicate, length-append, length-replicate}
use borrow.Author.Tests.{ne_eqb}
use Rattle.listings.specs.Bytes.{Bytes}
use Rattle.columns.specs.Columns.{blank, column}

-- a column of no place
pub column_none : (x : Bytes) (n : ℕ) → length x ≡ 0 → x ≡ column (length x) n
unfolding column
column_none [] n e = refl
column_none (b ∷ x) n e = absurd (omega arith)

-- a number of one digit, and a longer one, in a column of at least one place
pub column_digit : (w n : ℕ) → (w ≡ 0 → ⊥) → n < 10 → column w n ≡ replicate (w - 1) blank ++ ((48 + n) ∷ [])
unfolding column
column_digit zero n h l = absurd (h refl)
column_digit (suc w) n h l = rw (div-eq_of_lt l, mod-eq_of_lt l, sub-one)

pub column-digits : (w n : ℕ) → (w ≡ 0 → ⊥) → 10 ≤ n → column w n ≡ column (w - 1) (n / 10) ++ ((48 + n % 10) ∷ [])
unfolding column
column-digits zero n h l = absurd (h refl)
column-digits (suc w) n h l = rw (ne_eqb (n / 10) 0 (λ e. omega arith), sub-one)

length_front : (b : Bool) (w : ℕ) (s : Bytes) → length s ≡ w → length (cond b (replicate w blank) s) ≡ w
length_front true w s e = length-replicate w blank
length_front false w s e = e

pub length-column : (w n : ℕ) → length (column w n) ≡ w
unfolding column
length-column zero n = refl
length-column (suc w) n = rw (length-append, length_front (eqb (n / 10) 0) w (column w (n / 10)) (length-column w (n / 10))) (add-one w)

-- a column by its last digit
pub ruleset column_cases = (column_none, column_digit, column-digits, length-column)
