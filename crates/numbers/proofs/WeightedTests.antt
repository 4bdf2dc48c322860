-- A test of every number of a weighted triangle, row after row, and that where it holds it holds of each number.
-- Assumes nothing.
use mathlib.Core.Path.{◌≡◌, sym, ◌∙◌, ap}
use mathlib.Core.Bool.{Bool, true, ◌&&◌, and-eq-true_iff}
use mathlib.Core.List.{List, [], ◌∷◌, map}
use Prim.Native.Nat.{ℕ, zero, suc, ◌+◌, ◌≤◌, ◌<◌}
use native.Mathlib.Nat.{add-zero, zero-add}
use native.Mathlib.Omega.{arith}
use Rattle.basics.specs.Sums.{range}
use Rattle.numbers.proofs.Triangles.{row}
use Rattle.numbers.proofs.Weighted.{step, Weighted, step_row}

module _ (right : ℕ → ℕ → ℕ → Bool) where
  -- does the test hold of a row's numbers, from the number k on?
  unfoldable pub holds : ℕ → ℕ → List ℕ → Bool
  holds n k [] = true
  holds n k (c ∷ l) = right n k c && holds n (suc k) l

  in_row : (n k : ℕ) (f : ℕ → ℕ) (m i : ℕ) → holds n k (map f (range k m)) ≡ true → i < m → right n (k + i) (f (k + i)) ≡ true
  unfolding holds range
  in_row n k f zero i h b = absurd (omega arith)
  in_row n k f (suc m) zero h b =
      ap (λ (j : ℕ). right n j (f j)) (add-zero k) ∙ ((and-eq-true_iff (right n k (f k)) (holds n (suc k) (map f (range (suc k) m)))).0 h).0
  in_row n k f (suc m) (suc i) h b =
      ap (λ (j : ℕ). right n j (f j)) (omega arith) ∙ in_row n (suc k) f m i ((and-eq-true_iff (right n k (f k)) (holds n (suc k) (map f (range (suc k) m)))).0 h).1 (omega arith)

module _ (w : ℕ → ℕ) (right : ℕ → ℕ → ℕ → Bool) where
  -- .. and of m rows, from row n on?
  unfoldable pub tests : ℕ → ℕ → List ℕ → Bool
  tests zero n l = true
  tests (suc m) n l = holds right n 0 l && tests m (suc n) (step w 0 0 l)

module _ (w : ℕ → ℕ) (T : ℕ → ℕ → ℕ) (𝓦 : Weighted w T) (right : ℕ → ℕ → ℕ → Bool) where
  below : (m n : ℕ) → tests w right (suc m) n (row T n) ≡ true → tests w right m (suc n) (row T (suc n)) ≡ true
  unfolding tests
  below m n h =
      ap (tests w right m (suc n)) (sym (step_row w T 𝓦 n)) ∙ ((and-eq-true_iff (holds right n 0 (row T n)) (tests w right m (suc n) (step w 0 0 (row T n)))).0 h).1

  here : (m n k : ℕ) → tests w right (suc m) n (row T n) ≡ true → k ≤ n → right n k (T n k) ≡ true
  unfolding tests row
  here m n k h b =
      ap (λ (j : ℕ). right n j (T n j)) (sym (zero-add k))
      ∙ in_row right n 0 (T n) (suc n) k ((and-eq-true_iff (holds right n 0 (row T n)) (tests w right m (suc n) (step w 0 0 (row T n)))).0 h).0 (omega arith)

  pub every : (m n : ℕ) → tests w right m n (row T n) ≡ true → (j k : ℕ) → j < m → k ≤ n + j → right (n + j) k (T (n + j) k) ≡ true
  every zero n h j k a b = absurd (omega arith)
  every (suc m) n h zero k a b = ap (λ (i : ℕ). right i k (T i k)) (add-zero n) ∙ here m n k h (omega arith)
  every (suc m) n h (suc j) k a b =
      ap (λ (i : ℕ). right i k (T i k)) (omega arith) ∙ every m (suc n) (below m n h) j k (omega arith) (omega arith)
