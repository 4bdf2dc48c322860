-- Triangles by an addition rule, T(n + 1, k + 1) = T(n, k) + w(k + 1) T(n, k + 1): a row computed from the row before it, all rows as one list,
-- and that this list is the triangle. Pascal's has the weights 1, Stirling's the weights k. Assumes nothing.
use mathlib.Core.Path.{◌≡◌, refl, sym, ◌∙◌, ap, ap₂}
use mathlib.Core.List.{List, [], ◌∷◌, ◌++◌, map}
use Prim.Native.Nat.{ℕ, zero, suc, ◌+◌, ◌*◌, ◌/◌, ◌≤◌, ◌<◌}
use native.Mathlib.Nat.{add-zero, zero-add, mul-zero}
use native.Mathlib.Omega.{arith}
use lib.ListN.{get_or}
use Rattle.basics.specs.Sums.{range}
use Rattle.numbers.proofs.Triangles.{row, flat_from}
use Rattle.numbers.proofs.TriangleIndex.{entry_at}

-- the row after a row, from its entry k on; a is the entry before k of the old row
unfoldable pub step : (ℕ → ℕ) → ℕ → ℕ → List ℕ → List ℕ
step w k a [] = a ∷ []
step w k a (x ∷ xs) = (a + w k * x) ∷ step w (suc k) x xs

-- m rows from a row on
unfoldable pub rows : (ℕ → ℕ) → ℕ → List ℕ → List ℕ
rows w zero r = []
rows w (suc m) r = r ++ rows w m (step w 0 0 r)

pub record Weighted (w : ℕ → ℕ) (T : ℕ → ℕ → ℕ) : Type 0 where
  pub corner : T 0 0 ≡ 1
  pub left : (n : ℕ) → T (suc n) 0 ≡ w 0 * T n 0
  pub rule : (n k : ℕ) → T (suc n) (suc k) ≡ T n k + w (suc k) * T n (suc k)
  pub outside : (n : ℕ) → T n (suc n) ≡ 0

module _ (w : ℕ → ℕ) (T : ℕ → ℕ → ℕ) (𝓦 : Weighted w T) where
  step_from : (n k m : ℕ) → k + m ≡ n → step w (suc k) (T n k) (map (T n) (range (suc k) m)) ≡ map (T (suc n)) (range (suc k) (suc m))
  unfolding step range
  step_from n k zero e =
      let o : T n (suc k) ≡ 0 = ap (λ (i : ℕ). T n (suc i)) (omega arith) ∙ 𝓦.outside n in
      ap (λ (x : ℕ). x ∷ []) (sym (𝓦.rule n k ∙ rw (o, mul-zero, add-zero)))
  step_from n k (suc m) e = ap₂ (λ (x : ℕ) (l : List ℕ). x ∷ l) (sym (𝓦.rule n k)) (step_from n (suc k) m (omega arith))

  pub step_row : (n : ℕ) → step w 0 0 (row T n) ≡ row T (suc n)
  unfolding step row range
  step_row n = ap₂ (λ (x : ℕ) (l : List ℕ). x ∷ l) (zero-add (w 0 * T n 0) ∙ sym (𝓦.left n)) (step_from n 0 n (zero-add n))

  rows_are : (m n : ℕ) → rows w m (row T n) ≡ flat_from T m n
  unfolding rows flat_from
  rows_are zero n = refl
  rows_are (suc m) n = ap (λ (l : List ℕ). row T n ++ l) (ap (rows w m) (step_row n) ∙ rows_are m (suc n))

  -- the entry k of row n in the list of m computed rows
  pub computed_at : (m n k : ℕ) → n < m → k ≤ n → get_or (rows w m (1 ∷ [])) (n * (n + 1) / 2 + k) 0 ≡ T n k
  unfolding row range
  computed_at m n k h b =
      ap (λ (l : List ℕ). get_or l (n * (n + 1) / 2 + k) 0) (ap (λ (x : ℕ). rows w m (x ∷ [])) (sym 𝓦.corner) ∙ rows_are m 0)
      ∙ entry_at T m n k h b
