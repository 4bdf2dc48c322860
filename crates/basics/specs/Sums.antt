-- Sums over a list of choices, as the families' counts (SCOPE 6) are written.
-- Assumes nothing.
use Rattle.std.specs.Prelude.{ℕ, zero, suc, ◌+◌, List, [], ◌∷◌}

-- the sum of a list: of letter counts, the length of the word (SCOPE 1.2)
unfoldable pub total : List ℕ → ℕ
total [] = 0
total (c ∷ cs) = c + total cs

-- m numbers from a on: a, a + 1, ..
unfoldable pub range : ℕ → ℕ → List ℕ
range a zero = []
range a (suc m) = a ∷ range (suc a) m

-- the sum of g over the choices in a list
unfoldable pub sum_over : List ℕ → (ℕ → ℕ) → ℕ
sum_over [] g = 0
sum_over (x ∷ xs) g = g x + sum_over xs g
