-- Every stored number is the Stirling number that its place stands for: tested once, over the triangle to its last row.
-- Assumes nothing.
use mathlib.Core.Path.{◌≡◌, refl, sym, ◌∙◌, ap}
use mathlib.Core.Bool.{Bool, true, false, ◌&&◌}
use mathlib.Core.List.{[], ◌∷◌}
use Prim.Native.Nat.{ℕ, suc, ◌+◌, ◌*◌, ◌-◌, ◌/◌, ◌≤◌, ◌<◌}
use native.Mathlib.Nat.{zero-add}
use native.Mathlib.Omega.{arith}
use lib.Dec.{leb, ltb, eqb}
use lib.ListN.{get_or}
use borrow.Author.Tests.{eqb-true, le-leb, lt-ltb}
use Rattle.basics.specs.Sums.{range}
use Rattle.numbers.specs.Numbers.{stirling_of}
use Rattle.numbers.proofs.Stirlings.{stirling_weighted}
use Rattle.numbers.proofs.Triangles.{row}
use Rattle.numbers.proofs.Weighted.{step}
use Rattle.numbers.proofs.WeightedTests.{holds, tests, every}
use Rattle.stirling_rows.specs.Inner.Stored.{last_row}
use Rattle.stirling_rows.specs.declared.literals.TheConstants.{NUMBERS}

-- where the number of n models in k blocks stands, as `entry` works it out
abbrev pub place : ℕ → ℕ → ℕ
place n k = (n - 2) * (n - 3) / 2 + k - 2

-- stored are those of two blocks or more, and of more models than blocks
abbrev pick : Bool → Bool → Bool
pick true b = b
pick false b = true

unfoldable right : ℕ → ℕ → ℕ → Bool
right n k c = pick (leb 2 k && ltb k n) (eqb (get_or NUMBERS (place n k) 0) c)

tested : tests (λ k. k) right (suc last_row) 0 (1 ∷ []) ≡ true
unfolding tests holds right step
tested = refl

start : row stirling_of 0 ≡ 1 ∷ []
unfolding row range stirling_of
start = refl

held : (n k : ℕ) → n ≤ last_row → k ≤ n → right n k (stirling_of n k) ≡ true
held n k h b =
    ap (λ (i : ℕ). right i k (stirling_of i k)) (sym (zero-add n))
    ∙ every (λ k. k) stirling_of stirling_weighted right (suc last_row) 0 (ap (tests (λ k. k) right (suc last_row) 0) start ∙ tested) n k (omega arith) (omega arith)

pub there : (n k : ℕ) → n ≤ last_row → 2 ≤ k → k < n → get_or NUMBERS (place n k) 0 ≡ stirling_of n k
unfolding right
there n k h some fewer = eqb-true _ _ (rw (le-leb 2 k some, lt-ltb k n fewer) at (held n k h (omega arith)))
