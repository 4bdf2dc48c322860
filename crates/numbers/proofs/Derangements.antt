-- Derangement numbers: their recursion, which of them is 0, and that they grow from 1 on, so all from 21 on are too large.
-- Assumes nothing.
use mathlib.Core.Path.{◌≡◌, refl}
use Prim.Native.Nat.{ℕ, zero, suc, ◌+◌, ◌*◌, ◌≤◌, ◌<◌, ◌^◌}
use native.Mathlib.Nat.{suc-mul, mul-add, le_trans, lt_of_le_of_lt}
use native.Mathlib.Decide.{le_ind}
use native.Mathlib.Omega.{arith}
use lib.Dec.{lit<, lit≤}
use Rattle.numbers.specs.Numbers.{derangements_of}

pub derangement_rule : (n : ℕ) → derangements_of (suc (suc n)) ≡ suc n * derangements_of (suc n) + suc n * derangements_of n
unfolding derangements_of
derangement_rule n = mul-add (suc n) (derangements_of (suc n)) (derangements_of n)

pub derangement_zero : derangements_of 0 ≡ 1
unfolding derangements_of
derangement_zero = refl

pub derangement_one : derangements_of 1 ≡ 0
unfolding derangements_of
derangement_one = refl

-- both terms of the rule are at most the whole
pub derangement_grows : (n : ℕ) → (derangements_of (suc n) ≤ derangements_of (suc (suc n))) × (derangements_of n ≤ derangements_of (suc (suc n)))
derangement_grows n =
    let r = derangement_rule n in
    let a = suc-mul n (derangements_of (suc n)) in
    let b = suc-mul n (derangements_of n) in
    (omega (arith, r, a), omega (arith, r, b))

-- 1 is the only number without a derangement
pub derangement_positive : (n : ℕ) → 1 ≤ derangements_of (suc (suc n))
derangement_positive zero = omega (arith, derangement_zero, (derangement_grows 0).1)
derangement_positive (suc n) = le_trans (derangement_positive n) (derangement_grows (suc n)).0

-- only that of 0 is larger than the next
pub derangement_mono : {m n : ℕ} → m ≤ n → derangements_of (suc m) ≤ derangements_of (suc n)
derangement_mono {m} {n} h = le_ind (λ (i : ℕ). derangements_of (suc m) ≤ derangements_of (suc i)) (omega arith) (λ i _ p. le_trans p (derangement_grows i).0) n h

-- the last below 2^64 is that of 20

pub derangement_small : {n : ℕ} → n ≤ 20 → derangements_of n < 2 ^ 64
unfolding derangements_of
derangement_small {n = zero} h = lit< tt
derangement_small {n = suc n} h = lt_of_le_of_lt (derangement_mono {m = n} {n = 19} (omega arith)) (lit< tt)

pub derangement_large : {n : ℕ} → 20 < n → 2 ^ 64 ≤ derangements_of n
unfolding derangements_of
derangement_large {n = zero} h = absurd (omega arith)
derangement_large {n = suc n} h = le_trans (lit≤ tt) (derangement_mono {m = 20} {n = n} (omega arith))
