-- Where a rank is left to make up, there is a part to find, and the floor is at most the sum.
-- Assumes nothing.
use mathlib.Core.Path.{◌≡◌}
use Prim.Native.Nat.{ℕ, zero, suc, ◌≤◌, ◌<◌}
use native.Mathlib.Nat.{suc-mul}
use native.Mathlib.Omega.{arith}
use Rattle.numbers.specs.Numbers.{parts_from}
use Rattle.numbers.proofs.Laws.{too_few}

-- without parts there is at most one
pub one_empty : (f n k : ℕ) → k ≡ 0 → parts_from f n k ≤ 1
unfolding parts_from
one_empty f zero zero e = omega arith
one_empty f (suc n) zero e = omega arith
one_empty f n (suc k) e = absurd (omega arith)

pub few_above : (f n k : ℕ) → n < f → parts_from f n k ≤ 1
few_above f n zero h = one_empty f n 0 (omega arith)
few_above f n (suc k) h = omega (arith, too_few f n (suc k) (omega (arith, suc-mul k f)))

pub ruleset counts = (one_empty, few_above, too_few)
