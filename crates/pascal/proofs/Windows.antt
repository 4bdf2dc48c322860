-- The entries of a row before a place, a row up by additions, and that no sum on the way exceeds the entry worked out.
-- Assumes nothing.
use mathlib.Core.Path.{◌≡◌, refl, sym, ◌∙◌, ap}
use mathlib.Core.List.{List}
use Prim.Native.Nat.{ℕ, zero, suc, ◌+◌, ◌-◌, ◌≤◌, ◌<◌, ◌^◌}
use native.Mathlib.Nat.{add-zero, add-suc, suc-add, le_trans}
use native.Mathlib.Omega.{arith}
use lib.ListN.{length, get_or}
use Rattle.numbers.specs.Numbers.{choose}
use Rattle.pascal.specs.Inner.Triangle.{last_row}
use Rattle.pascal.specs.Inner.Window.{width, back, Added}
use Rattle.numbers.proofs.Binomials.{choose_mono}

-- a row up: an entry and its right neighbour in the window
pub back-up : (n k i : ℕ) → back (suc n) k i ≡ back n k i + back n k (suc i)
unfolding back choose
back-up n zero zero = refl
back-up n (suc k) zero = omega arith
back-up n zero (suc i) = refl
back-up n (suc k) (suc i) = back-up n k i

-- a list that has the window of a row has that of the next row in its sums
pub window_up : (n k m : ℕ) (d : List ℕ) → ((i : ℕ) → i ≤ m → get_or d i 0 ≡ back n k i) → (i : ℕ) → i < m → get_or d i 0 + get_or d (suc i) 0 ≡ back (suc n) k i
window_up n k m d h i lt = rw (h i (omega arith), h (suc i) lt, back-up)

-- what is read i places before k
pub back-within : (n k i : ℕ) → i ≤ k → back n k i ≡ choose n (k - i)
unfolding back
back-within n k zero h = ap (choose n) (omega arith)
back-within n zero (suc i) h = absurd (omega arith)
back-within n (suc k) (suc i) h = back-within n k i (omega arith) ∙ ap (choose n) (omega arith)

pub back-before : (n k i : ℕ) → k < i → back n k i ≡ 0
unfolding back
back-before n k zero h = absurd (omega arith)
back-before n zero (suc i) h = refl
back-before n (suc k) (suc i) h = back-before n k i (omega arith)

-- an entry i places before k is part of the entry k, i rows up
back-le : (n k i : ℕ) → back n k i ≤ choose (n + i) k
unfolding back
back-le n k zero = rw add-zero (omega arith)
back-le n k (suc i) = rw (add-suc, sym (suc-add n i)) (le_trans (omega (arith, back-up n k i)) (back-le (suc n) k i))

pub back_below : (m n k i : ℕ) → m + i ≤ n → back m k i ≤ choose n k
back_below m n k i h = le_trans (back-le m k i) (choose_mono k h)

-- w has the window of a row from which `left` more rows lead to row n
pub record Reached (n k : ℕ) (w : List ℕ) (left : ℕ) : Type 0 where
  pub row : ℕ
  pub from : last_row ≤ row
  pub up_to : row + left ≡ n
  pub long : length w ≡ width
  pub entries : (i : ℕ) → i ≤ left → get_or w i 0 ≡ back row k i

pub row_more : {n k left : ℕ} {d e : List ℕ} → Reached n k d left → 0 < left → Added d (left - 1 + 1) e → Reached n k e (left - 1)
row_more {k = k} {left = left} {d = d} c some added =
    record {
      row = suc c.row;
      from = omega arith;
      up_to = omega arith;
      long = added.same ∙ c.long;
      entries = λ i h. added.sums i (omega arith) ∙ window_up c.row k left d c.entries i (omega arith);
    }

-- each sum is part of the entry that is worked out
pub sums_fit : {n k left : ℕ} {d : List ℕ} → Reached n k d left → choose n k < 2 ^ 64 → (i : ℕ) → i < left → get_or d i 0 + get_or d (suc i) 0 < 2 ^ 64
sums_fit {n} {k} {left} {d} c fits i lt = omega (arith, window_up c.row k left d c.entries i lt, back_below (suc c.row) n k i (omega arith))

pub entry_reached : {n k left : ℕ} {w : List ℕ} → Reached n k w left → left ≤ 0 → get_or w 0 0 ≡ choose n k
unfolding back
entry_reached {k = k} c end = c.entries 0 (omega arith) ∙ ap (λ r. choose r k) (omega arith)
