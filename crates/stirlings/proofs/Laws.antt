-- The rule of the band: row 0 is all ones, and a number of a later row is the one on its left plus so many times the one above; and the
-- last number of the last row bounds the others of the later rows. Assumes nothing.
use mathlib.Core.Path.{◌≡◌, sym, ◌∙◌, ap}
use Prim.Native.Nat.{ℕ, zero, suc, ◌+◌, ◌-◌, ◌*◌, ◌≤◌, ◌<◌, ◌^◌}
use native.Mathlib.Nat.{add-zero, zero-mul}
use native.Mathlib.Omega.{arith}
use Rattle.numbers.specs.Numbers.{stirling_of}
use Rattle.numbers.proofs.Stirlings.{stirling_rule, stirling_zero, stirling_all, stirling_grows, stirling_grows_both}

-- the number j of row d: j + d models in j blocks
abbrev pub band : ℕ → ℕ → ℕ
band d j = stirling_of (j + d) j

pub first-row : (j : ℕ) → band 0 j ≡ 1
first-row j = ap (λ (i : ℕ). stirling_of i j) (add-zero j) ∙ stirling_all j

first-column : (d : ℕ) → 0 < d → 0 ≡ band d 0
first-column d h = sym (stirling_zero (0 + d) (omega arith))

-- the number on the left of number j of a row
unfoldable pub left_of_lem : ℕ → ℕ → ℕ
left_of_lem d zero = 0
left_of_lem d (suc j) = band d j

pub rule : (e j : ℕ) → left_of_lem (suc e) j + j * band e j ≡ band (suc e) j
unfolding left_of_lem
rule e zero = omega (arith, zero-mul (band e 0), first-column (suc e) (omega arith))
rule e (suc j) =
    let a : suc j + e ≡ j + suc e = omega arith in
    let b : suc (j + suc e) ≡ suc j + suc e = omega arith in
    ap (λ (i : ℕ). stirling_of (j + suc e) j + suc j * stirling_of i (suc j)) a ∙ sym (stirling_rule (j + suc e) j) ∙ ap (λ (i : ℕ). stirling_of i (suc j)) b

-- the numbers grow along a row, and down a column but the first

along : (d j i : ℕ) → band d j ≤ band d (j + i)
along d j zero = let e : j + 0 ≡ j = add-zero j in omega (arith, ap (band d) e)
along d j (suc i) =
    let e : suc (j + i) ≡ j + suc i = omega arith in
    let f : suc (j + i + d) ≡ suc (j + i) + d = omega arith in
    omega (arith, along d j i, stirling_grows_both (j + i + d) (j + i), ap (λ (m : ℕ). stirling_of m (suc (j + i))) f, ap (band d) e)

down : (d i j : ℕ) → band d (suc j) ≤ band (d + i) (suc j)
down d zero j = let e : d + 0 ≡ d = add-zero d in omega (arith, ap (λ (m : ℕ). band m (suc j)) e)
down d (suc i) j =
    let e : suc (suc j + (d + i)) ≡ suc j + (d + suc i) = omega arith in
    omega (arith, down d i j, stirling_grows (suc j + (d + i)) j, ap (λ (m : ℕ). stirling_of m (suc j)) e)

-- where the number of n models in k blocks is below 2^64, so is the band up to there
pub all_fit : (n k d j : ℕ) → stirling_of n k < 2 ^ 64 → k ≤ n → d ≤ n - k → j ≤ k → 0 < d → band d j < 2 ^ 64
all_fit n k d zero h a b c pos = omega (arith, first-column d pos)
all_fit n k d (suc j) h a b c pos =
    let e : suc j + (k - suc j) ≡ k = omega arith in
    let f : k + (d + (n - k - d)) ≡ n = omega arith in
    omega (arith, down d (n - k - d) j, along (d + (n - k - d)) (suc j) (k - suc j), ap (band (d + (n - k - d))) e, ap (λ (m : ℕ). stirling_of m k) f)
