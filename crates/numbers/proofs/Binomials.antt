-- The binomial coefficients: the addition rule, the sum over the largest element, where they vanish, how they grow, and the two rules that take one element away.
-- Assumes nothing.
use mathlib.Core.Path.{◌≡◌, refl, ◌∙◌, ap}
use Prim.Native.Nat.{ℕ, zero, suc, ◌+◌, ◌*◌, ◌≤◌, ◌<◌}
use native.Mathlib.Nat.{add-zero, zero-add, add-suc, mul-zero, one-mul, suc-mul, mul-add, add-mul, le_refl, le_trans, le_dest}
use native.Mathlib.Omega.{arith}
use Rattle.basics.specs.Sums.{range, sum_over}
use Rattle.basics.proofs.Ranges.{range_snoc, sum_over-append}
use Rattle.numbers.specs.Numbers.{choose}
use Rattle.numbers.proofs.Weighted.{Weighted}

pub pascal : (n k : ℕ) → choose (suc n) (suc k) ≡ choose n k + choose n (suc k)
unfolding choose
pascal n k = refl

-- a set by its largest element: the others are out of the m below it
pub choose-sum : (n k : ℕ) → sum_over (range 0 n) (λ m. choose m k) ≡ choose n (suc k)
unfolding choose range sum_over
choose-sum zero k = refl
choose-sum (suc n) k = ap (λ l. sum_over l (λ m. choose m k)) (range_snoc 0 n) ∙ sum_over-append (range 0 n) _ (λ m. choose m k) ∙ rw zero-add (omega (arith, choose-sum n k))

pub choose-zero : (n : ℕ) → choose n 0 ≡ 1
unfolding choose
choose-zero n = refl

pub choose-none : (n k : ℕ) → n < k → choose n k ≡ 0
unfolding choose
choose-none n zero h = omega arith
choose-none zero (suc k) h = refl
choose-none (suc n) (suc k) h = omega (arith, choose-none n k (omega arith), choose-none n (suc k) (omega arith))

pub choose-positive : (n k : ℕ) → k ≤ n → 1 ≤ choose n k
unfolding choose
choose-positive n zero h = omega arith
choose-positive zero (suc k) h = omega arith
choose-positive (suc n) (suc k) h = omega (arith, choose-positive n k (omega arith))

pub choose_all : (n : ℕ) → choose n n ≡ 1
unfolding choose
choose_all zero = refl
choose_all (suc n) = omega (arith, choose_all n, choose-none n (suc n) (omega arith))

pub choose_grows : (n k : ℕ) → choose n k ≤ choose (suc n) k
unfolding choose
choose_grows n zero = omega arith
choose_grows n (suc k) = omega arith

pub choose_grows_both : (n k : ℕ) → choose n k ≤ choose (suc n) (suc k)
choose_grows_both n k = omega (arith, pascal n k)

choose-add : (m d k : ℕ) → choose m k ≤ choose (m + d) k
choose-add m zero k = rw add-zero (le_refl _)
choose-add m (suc d) k = rw add-suc (le_trans (choose-add m d k) (choose_grows (m + d) k))

pub choose_mono : {m n : ℕ} (k : ℕ) → m ≤ n → choose m k ≤ choose n k
choose_mono {m} {n} k h = rw (le_dest h).1 at (choose-add m (le_dest h).0 k)

-- the step of `absorb`, over plain numbers: a and b are above A = a + b and B in the triangle
absorb_step : (n k a b B : ℕ) → suc k * (a + b) ≡ suc n * a → suc (suc k) * B ≡ suc n * b → suc (suc k) * (a + b + B) ≡ suc (suc n) * (a + b)
absorb_step n k a b B p q = omega (arith, mul-add (suc (suc k)) (a + b) B, suc-mul (suc k) (a + b), suc-mul (suc n) (a + b), mul-add (suc n) a b)

-- a set with one element marked: mark in the set, or mark first and choose the others
pub absorb : (n k : ℕ) → suc k * choose (suc n) (suc k) ≡ suc n * choose n k
unfolding choose
absorb zero zero = refl
absorb zero (suc k) = mul-zero (suc (suc k))
absorb (suc n) zero = omega (arith, absorb n zero)
absorb (suc n) (suc k) = absorb_step n k _ _ _ (absorb n k) (absorb n (suc k))

pub choose_one : (n : ℕ) → choose n 1 ≡ n
unfolding choose
choose_one zero = refl
choose_one (suc n) = omega (arith, choose_one n)

rest_step : (c t a b : ℕ) → suc c * (a + b) ≡ suc (suc c + t) * a → suc t * (a + b) ≡ suc (suc c + t) * b
rest_step c t a b p = omega (arith, rw add-suc at (add-mul (suc c) (suc t) (a + b)), mul-add (suc (suc c + t)) a b)

-- a set with one element outside it marked: t + 1 of the c + t + 1 lie outside
pub absorb_rest : (c t : ℕ) → suc t * choose (c + suc t) c ≡ (c + suc t) * choose (c + t) c
unfolding choose
absorb_rest zero t = omega arith
absorb_rest (suc c) t = rw add-suc (rest_step c t _ _ (absorb (suc c + t) c))

pub pascal_weighted : Weighted (λ k. 1) choose
unfolding choose
pascal_weighted = record { corner = refl; left = λ n. refl; rule = λ n k. rw one-mul; outside = λ n. choose-none n (suc n) (omega arith) }
