-- The numbers at the ends of a row.
-- Assumes nothing.
use mathlib.Core.Path.{◌≡◌, sym, ap}
use Prim.Native.Nat.{ℕ, zero, suc, ◌*◌, ◌-◌, ◌/◌, ◌<◌}
use native.Mathlib.Nat.{mul-suc, suc-mul, mul-one}
use native.Mathlib.Omega.{arith}
use Rattle.numbers.specs.Numbers.{stirling_of}
use Rattle.numbers.proofs.Stirlings.{stirling_rule, stirling_all, stirling_zero, stirling_one}

pub short : (n k : ℕ) → k < 2 → k < n → k ≡ stirling_of n k
short n zero few fewer = sym (stirling_zero n (omega arith))
short n (suc zero) few fewer = sym (stirling_one n (omega arith))
short n (suc (suc k)) few fewer = absurd (omega arith)

-- all but one block: two of the models share one

twice : (n : ℕ) → 2 * stirling_of (suc n) n ≡ suc n * n
twice zero = omega (arith, stirling_zero 1 (omega arith))
twice (suc n) =
    let one : suc n * stirling_of (suc n) (suc n) ≡ suc n * 1 = ap (λ i. suc n * i) (stirling_all (suc n)) in
    omega (arith, stirling_rule (suc n) n, one, mul-one (suc n), twice n, suc-mul (suc n) (suc n), mul-suc (suc n) n)

pub all_but_one : (n : ℕ) → 0 < n → n * (n - 1) / 2 ≡ stirling_of n (n - 1)
all_but_one zero h = absurd (omega arith)
all_but_one (suc n) h =
    let back : suc n - 1 ≡ n = omega arith in
    rw back (omega (arith, twice n))
