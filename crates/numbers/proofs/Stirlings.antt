-- Stirling numbers of the second kind: their recursion, where they are 0 and where not, and that they grow.
-- Assumes nothing.
use mathlib.Core.Path.{◌≡◌, refl, sym}
use Prim.Native.Nat.{ℕ, zero, suc, ◌+◌, ◌*◌, ◌≤◌, ◌<◌}
use native.Mathlib.Nat.{suc-mul, zero-mul, mul-zero}
use native.Mathlib.Omega.{arith}
use Rattle.numbers.specs.Numbers.{stirling_of}
use Rattle.numbers.proofs.Weighted.{Weighted}

pub stirling_rule : (n k : ℕ) → stirling_of (suc n) (suc k) ≡ stirling_of n k + suc k * stirling_of n (suc k)
unfolding stirling_of
stirling_rule n k = refl

pub stirling_corner : stirling_of 0 0 ≡ 1
unfolding stirling_of
stirling_corner = refl

pub stirling_zero : (n : ℕ) → 0 < n → stirling_of n 0 ≡ 0
unfolding stirling_of
stirling_zero zero pos = absurd (omega arith)
stirling_zero (suc n) pos = refl

pub stirling_none : (n k : ℕ) → n < k → stirling_of n k ≡ 0
unfolding stirling_of
stirling_none n zero h = absurd (omega arith)
stirling_none zero (suc k) h = refl
stirling_none (suc n) (suc k) h = rw (stirling_none n k (omega arith), stirling_none n (suc k) (omega arith), mul-zero)

pub stirling_positive : (n k : ℕ) → 0 < k → k ≤ n → 1 ≤ stirling_of n k
stirling_positive n zero pos le = absurd (omega arith)
stirling_positive zero (suc k) pos le = absurd (omega arith)
stirling_positive (suc zero) (suc zero) pos le = omega (arith, stirling_rule 0 0, stirling_corner)
stirling_positive (suc (suc n)) (suc zero) pos le = omega (arith, stirling_rule (suc n) 0, stirling_positive (suc n) 1 pos (omega arith))
stirling_positive (suc n) (suc (suc k)) pos le = omega (arith, stirling_rule n (suc k), stirling_positive n (suc k) (omega arith) (omega arith))

-- the set with one model more has no fewer partitions, into as many blocks or one more
pub stirling_grows : (n k : ℕ) → stirling_of n (suc k) ≤ stirling_of (suc n) (suc k)
stirling_grows n k = rw (stirling_rule, suc-mul) (omega arith)

pub stirling_grows_both : (n k : ℕ) → stirling_of n k ≤ stirling_of (suc n) (suc k)
stirling_grows_both n k = rw stirling_rule (omega arith)

pub stirling_weighted : Weighted (λ k. k) stirling_of
unfolding stirling_of
stirling_weighted = record { corner = refl; left = λ n. sym (zero-mul (stirling_of n 0)); rule = λ n k. refl; outside = λ n. stirling_none n (suc n) (omega arith) }

pub stirling_one : (n : ℕ) → 0 < n → stirling_of n 1 ≡ 1
stirling_one zero pos = absurd (omega arith)
stirling_one (suc zero) pos = omega (arith, stirling_rule 0 0, stirling_corner, stirling_none 0 1 (omega arith))
stirling_one (suc (suc n)) pos = omega (arith, stirling_rule (suc n) 0, stirling_zero (suc n) (omega arith), stirling_one (suc n) (omega arith))

pub stirling_all : (n : ℕ) → stirling_of n n ≡ 1
stirling_all zero = stirling_corner
stirling_all (suc n) = rw (stirling_rule, stirling_none n (suc n) (omega arith), mul-zero) (omega (arith, stirling_all n))
