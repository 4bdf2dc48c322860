-- Where an entry of a triangle stands in the list of its rows: the entry k of row n at n * (n + 1) / 2 + k.
-- Assumes nothing.
use mathlib.Core.Path.{◌≡◌, sym, ◌∙◌, ap}
use mathlib.Core.List.{◌++◌}
use Prim.Native.Nat.{ℕ, zero, suc, ◌+◌, ◌*◌, ◌/◌, ◌≤◌, ◌<◌}
use native.Mathlib.Nat.{add-zero, zero-add, add_assoc, mul-suc, suc-mul, zero-mul, mul-le-mul, mul-div_cancel_left}
use native.Mathlib.Omega.{arith}
use lib.ListN.{length, get_or, length-map, get_or-append}
use lib.Seq.{get_or-append-add}
use Rattle.basics.specs.Sums.{range}
use Rattle.basics.proofs.Ranges.{length-range, get_d_table}
use Rattle.numbers.proofs.Triangles.{row, flat_from}

-- how many stand in j rows from row n on, of so many each
unfoldable above : (ℕ → ℕ) → ℕ → ℕ → ℕ
above ℓ n zero = 0
above ℓ n (suc j) = ℓ n + above ℓ (suc n) j

length-row : (T : ℕ → ℕ → ℕ) (n : ℕ) → length (row T n) ≡ suc n
unfolding row
length-row T n = length-map (range 0 (suc n)) (T n) ∙ length-range 0 (suc n)

row_at : (T : ℕ → ℕ → ℕ) (n k : ℕ) → k ≤ n → get_or (row T n) k 0 ≡ T n k
unfolding row
row_at T n k h = get_d_table (T n) (suc n) k 0 (omega arith)

flat_at : (T : ℕ → ℕ → ℕ) (m n j k : ℕ) → j < m → k ≤ n + j → get_or (flat_from T m n) (above suc n j + k) 0 ≡ T (n + j) k
unfolding flat_from above
flat_at T zero n j k h b = absurd (omega arith)
flat_at T (suc m) n zero k h b =
    ap (λ (i : ℕ). get_or (row T n ++ flat_from T m (suc n)) i 0) (zero-add k)
    ∙ get_or-append (row T n) (flat_from T m (suc n)) 0 k (rw length-row (omega arith))
    ∙ row_at T n k (omega arith)
    ∙ ap (λ (i : ℕ). T i k) (sym (add-zero n))
flat_at T (suc m) n (suc j) k h b =
    ap (λ (i : ℕ). get_or (row T n ++ flat_from T m (suc n)) i 0) (add_assoc (suc n) (above suc (suc n) j) k ∙ ap (λ (i : ℕ). i + (above suc (suc n) j + k)) (sym (length-row T n)))
    ∙ get_or-append-add (row T n) (flat_from T m (suc n)) (above suc (suc n) j + k) 0
    ∙ flat_at T m (suc n) j k (omega arith) (omega arith)
    ∙ ap (λ (i : ℕ). T i k) (omega arith)

-- twice the entries of j rows from row n on
twice : (n j : ℕ) → 2 * above suc n j ≡ j * (n + n + j + 1)
unfolding above
twice n zero = rw zero-mul
twice n (suc j) =
    let x = n + n + suc j + 1 in
    let e : 2 * above suc (suc n) j ≡ j * x + j = twice (suc n) j ∙ ap (λ (i : ℕ). j * i) (omega arith) ∙ mul-suc j x in
    rw (suc-mul j) (omega arith)

entries_zero : (n : ℕ) → above suc 0 n ≡ n * (n + 1) / 2
entries_zero n = sym (mul-div_cancel_left (above suc 0 n) (omega arith)) ∙ ap (λ (i : ℕ). i / 2) (twice 0 n ∙ ap (λ (i : ℕ). n * i) (omega arith))

-- the entry k of row n, of m rows
pub entry_at : (T : ℕ → ℕ → ℕ) (m n k : ℕ) → n < m → k ≤ n → get_or (flat_from T m 0) (n * (n + 1) / 2 + k) 0 ≡ T n k
entry_at T m n k h b =
    ap (λ (i : ℕ). get_or (flat_from T m 0) (i + k) 0) (sym (entries_zero n))
    ∙ flat_at T m 0 n k h (omega arith)
    ∙ ap (λ (i : ℕ). T i k) (zero-add n)

-- no entry stands behind the last of the last row
pub place-le : (n m k : ℕ) → n ≤ m → k ≤ n → n * (n + 1) / 2 + k ≤ m * (m + 1) / 2 + m
place-le n m k h b =
    let p : n * (n + 1) ≤ m * (m + 1) = mul-le-mul h (omega arith) in
    omega arith
