-- Within the places every count of partitions is below 2^64: it is at most a Fibonacci number.
-- Assumes nothing.
use mathlib.Core.Path.{◌≡◌}
use Prim.Native.Nat.{ℕ, zero, suc, ◌+◌, ◌-◌, ◌≤◌, ◌<◌, ◌^◌}
use native.Mathlib.Nat.{add-zero, add-suc, suc-add, sub-zero}
use native.Mathlib.Decide.{dec_le}
use native.Mathlib.Omega.{arith}
use Rattle.basics.specs.Limits.{places}
use Rattle.numbers.specs.Numbers.{parts_from, partitions_of}
use Rattle.numbers.proofs.Laws.{partitions_rule, partitions_none, partitions_zero, partitions_corner, floor_mono}

-- 1, 1, 2, 3, 5, .. from a and b on
fibonacci : ℕ → ℕ → ℕ → ℕ
fibonacci a b zero = a
fibonacci a b (suc n) = fibonacci b (a + b) n

-- of sums below n
abbrev Bounded : ℕ → ℕ → Type 0
Bounded n b = (m k : ℕ) → m < n → partitions_of m k ≤ b

-- the rule takes one part of 1 away, or one off each of two or more parts
grown : (n a b : ℕ) → Bounded n a → Bounded (suc n) b → (k : ℕ) → partitions_of (suc n) k ≤ a + b
grown n a b low high zero = omega (arith, partitions_zero (suc n) (omega arith))
grown n a b low high (suc zero) =
    let rule : partitions_of (suc n) 1 ≡ partitions_of n 0 + partitions_of n 1 = rw sub-zero at (partitions_rule n 0 (omega arith)) in
    elim (dec_le 1 n) [
      | yes h ↦ omega (arith, partitions_zero n h, high n 1 (omega arith))
      | no h ↦ omega (arith, partitions_none n 1 (omega arith), high n 0 (omega arith))
    ]
grown n a b low high (suc (suc k)) =
    elim (dec_le (suc k) n) [
      | yes h ↦ omega (arith, partitions_rule n (suc k) h, high n (suc k) (omega arith), low (n - suc k) (suc (suc k)) (omega arith))
      | no h ↦ omega (arith, partitions_none (suc n) (suc (suc k)) (omega arith))
    ]

bounded : (d n a b : ℕ) → Bounded n a → Bounded (suc n) b → Bounded (n + d) (fibonacci a b d)
unfolding fibonacci
bounded zero n a b low high = rw add-zero low
bounded (suc d) n a b low high = rw (add-suc, ← suc-add) (bounded d (suc n) b (a + b) high λ m k h.
    elim (dec_le m n) [
      | yes l ↦ omega (arith, high m k (omega arith))
      | no g ↦ let e : m ≡ suc n = omega arith in rw e (grown n a b low high k)
    ])

none : Bounded 1 1
none zero zero h = omega (arith, partitions_corner)
none zero (suc k) h = omega (arith, partitions_none 0 (suc k) (omega arith))
none (suc m) k h = absurd (omega arith)

pub small_over : (f n k : ℕ) → 0 < f → n ≤ places → parts_from f n k < 2 ^ 64
unfolding partitions_of fibonacci
small_over f n k pos h = omega (arith, bounded (suc places) 0 1 1 (λ m j l. absurd (omega arith)) none n k (omega arith), floor_mono n k {f = 1} {g = f} (omega arith))
