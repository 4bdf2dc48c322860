-- How many words come before those whose inside has j branches.
-- Assumes nothing.
use Rattle.std.specs.Prelude.{ℕ, ◌*◌, ◌-◌}
use Rattle.basics.specs.Sums.{range, sum_over}
use Rattle.numbers.specs.Numbers.{catalan_of}

-- the words of n + 1 branches whose inside has fewer than j
unfoldable pub shorter : ℕ → ℕ → ℕ
shorter n j = sum_over (range 0 j) (λ l. catalan_of l * catalan_of (n - l))
