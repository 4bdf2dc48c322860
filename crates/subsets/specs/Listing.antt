-- The listing (SCOPE 5.1) of subsets, after Loehr: by the last number, with the others out of those below it.
-- Assumes nothing.
use Rattle.std.specs.Prelude.{List, [], ◌∷◌, ◌++◌, ℕ, zero, suc}
use Rattle.basics.specs.Sums.{range}
use Rattle.listings.specs.Bytes.{Bytes}
use Rattle.listings.specs.Choices.{by_choice}

-- "k site numbers from 1 to n", in the order by the last place (SCOPE 1.1, 2.1): the last is m + 1
unfoldable pub subsets : ℕ → ℕ → List Bytes
subsets n zero = [] ∷ []
subsets n (suc k) = by_choice (range 0 n) (λ m. subsets m k) (λ m x. x ++ (suc m ∷ []))
