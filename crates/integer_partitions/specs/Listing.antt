-- The listing (SCOPE 5.1) of integer partitions, after Loehr: by the last part p, ascending from the floor; the other parts are at least p.
-- Assumes nothing.
use Rattle.std.specs.Prelude.{List, [], ◌∷◌, ◌++◌, ℕ, zero, suc, ◌-◌}
use Rattle.basics.specs.Sums.{range}
use Rattle.listings.specs.Bytes.{Bytes}
use Rattle.listings.specs.Choices.{by_choice}

-- k parts that are at least the floor f, with the sum n: kind 5 in its order (SCOPE 1.5, 1.e, 2.5)
unfoldable pub integer_partitions : ℕ → ℕ → ℕ → List Bytes
integer_partitions f zero zero = [] ∷ []
integer_partitions f (suc n) zero = []
integer_partitions f n (suc k) = by_choice (range f (suc n - f)) (λ p. integer_partitions p (n - p) k) (λ p x. x ++ (p ∷ []))
