-- Factorials grow, so all from 21 on are too large.
-- Assumes nothing.
use mathlib.Core.Path.{◌≡◌, refl}
use Prim.Native.Nat.{ℕ, suc, ◌*◌, ◌≤◌, ◌<◌, ◌^◌}
use native.Mathlib.Nat.{suc-mul, le_trans, lt_of_le_of_lt}
use native.Mathlib.Decide.{le_ind}
use native.Mathlib.Omega.{arith}
use lib.Dec.{lit<, lit≤}
use Rattle.numbers.specs.Numbers.{factorial_of}

pub factorial_rule : (n : ℕ) → factorial_of (suc n) ≡ suc n * factorial_of n
unfolding factorial_of
factorial_rule n = refl

pub factorial_grows : (n : ℕ) → factorial_of n ≤ factorial_of (suc n)
factorial_grows n = rw (factorial_rule, suc-mul) (omega arith)

pub factorial_mono : {m n : ℕ} → m ≤ n → factorial_of m ≤ factorial_of n
factorial_mono {m} {n} h = le_ind (λ (i : ℕ). factorial_of m ≤ factorial_of i) (omega arith) (λ i _ p. le_trans p (factorial_grows i)) n h

-- the last below 2^64 is that of 20

pub factorial_small : {n : ℕ} → n ≤ 20 → factorial_of n < 2 ^ 64
unfolding factorial_of
factorial_small h = lt_of_le_of_lt (factorial_mono h) (lit< tt)

pub factorial_large : {n : ℕ} → 20 < n → 2 ^ 64 ≤ factorial_of n
unfolding factorial_of
factorial_large h = le_trans (lit≤ tt) (factorial_mono h)
