-- A triangle of numbers T n k, k from 0 to n, as a list, row by row.
-- Assumes nothing.
use Prim.Native.Nat.{ℕ, zero, suc}
use mathlib.Core.List.{List, [], ◌++◌, map}
use Rattle.basics.specs.Sums.{range}

unfoldable pub row : (ℕ → ℕ → ℕ) → ℕ → List ℕ
row T n = map (T n) (range 0 (suc n))

-- m rows from row n on
unfoldable pub flat_from : (ℕ → ℕ → ℕ) → ℕ → ℕ → List ℕ
flat_from T zero n = []
flat_from T (suc m) n = row T n ++ flat_from T m (suc n)
