-- Catalan numbers: the convolution, which of its products is within which number, and that they grow.
-- Assumes nothing.
use mathlib.Core.Path.{◌≡◌, refl, sym, ◌∙◌, ap, ap₂}
use Prim.Native.Nat.{ℕ, zero, suc, ◌-◌, ◌*◌, ◌≤◌, ◌<◌, ◌^◌}
use native.Mathlib.Nat.{sub-zero, sub_self, suc-sub-suc, mul-one, le_trans, lt_of_le_of_lt}
use native.Mathlib.Decide.{le_ind}
use native.Mathlib.Omega.{arith}
use lib.Dec.{lit<, lit≤}
use lib.ListN.{get_or}
use Rattle.basics.specs.Sums.{range, sum_over}
use Rattle.numbers.specs.Numbers.{catalans_down, catalan_of}
use Rattle.basics.proofs.Ranges.{sum_over_cong, member_le, between, in_range}

down_at : (n i : ℕ) → i ≤ n → get_or (catalans_down n) i 0 ≡ catalan_of (n - i)
unfolding catalan_of catalans_down
down_at n zero h = ap catalan_of (sym (sub-zero n))
down_at zero (suc i) h = absurd (omega arith)
down_at (suc n) (suc i) h = down_at n i (omega arith) ∙ ap catalan_of (sym (suc-sub-suc n i))

term : (n j : ℕ) → j ≤ n → get_or (catalans_down n) (n - j) 0 * get_or (catalans_down n) j 0 ≡ catalan_of j * catalan_of (n - j)
term n j h = ap₂ (λ (a b : ℕ). a * b) (down_at n (n - j) (omega arith) ∙ ap catalan_of (omega arith)) (down_at n j h)

-- the inside has j branches, the rest the others
pub convolution : (n : ℕ) → catalan_of (suc n) ≡ sum_over (range 0 (suc n)) (λ j. catalan_of j * catalan_of (n - j))
unfolding catalan_of catalans_down
convolution n = sum_over_cong (range 0 (suc n)) (λ j m. let b = between 0 (suc n) m in term n j (omega arith))

pub product_le : (n j : ℕ) → j ≤ n → catalan_of j * catalan_of (n - j) ≤ catalan_of (suc n)
product_le n j h = rw convolution (member_le (λ i. catalan_of i * catalan_of (n - i)) (in_range 0 (suc n) (omega arith) (omega arith)))

pub catalan_zero : catalan_of 0 ≡ 1
unfolding catalan_of catalans_down
catalan_zero = refl

pub catalan_grows : (n : ℕ) → catalan_of n ≤ catalan_of (suc n)
catalan_grows n = rw (sub_self, catalan_zero, mul-one) at (product_le n n (omega arith))

pub catalan_mono : {m n : ℕ} → m ≤ n → catalan_of m ≤ catalan_of n
catalan_mono {m} {n} h = le_ind (λ (i : ℕ). catalan_of m ≤ catalan_of i) (omega arith) (λ i _ p. le_trans p (catalan_grows i)) n h

pub catalan_positive : (n : ℕ) → 1 ≤ catalan_of n
catalan_positive n = rw (sym catalan_zero) (catalan_mono (omega arith))

-- the last below 2^64 is that of 36

pub catalan_small : {n : ℕ} → n ≤ 36 → catalan_of n < 2 ^ 64
unfolding catalan_of catalans_down sum_over range
catalan_small h = lt_of_le_of_lt (catalan_mono h) (lit< tt)

pub catalan_large : {n : ℕ} → 36 < n → 2 ^ 64 ≤ catalan_of n
unfolding catalan_of catalans_down sum_over range
catalan_large h = le_trans (lit≤ tt) (catalan_mono h)
