-- A band of the triangle of Stirling numbers, row after row in one list, and where on a row they reach 2^64.
-- Assumes nothing.
use Rattle.std.specs.Prelude.{◌≡◌, List, ℕ, ◌+◌, ◌-◌, ◌*◌, ◌≤◌, ◌<◌, length, get_or}
use Rattle.basics.specs.Limits.{places}
use Rattle.numbers.specs.Numbers.{stirling_of}

-- as many numbers as the largest band has, that of the most models in 74 blocks
abbrev pub capacity : ℕ
capacity = (places - 74 + 1) * (74 + 1)

-- the first d rows, of w numbers each, are there: number j of row e is that of the partitions of j + e models into j blocks
pub record Filled (t : List ℕ) (w d : ℕ) : Type 0 where
  pub size : length t ≡ capacity
  pub room : d * w ≤ capacity
  pub there : (e j : ℕ) → e < d → j < w → get_or t (e * w + j) 0 ≡ stirling_of (j + e) j

-- the band goes as far as n models in k blocks, whose number stands at `at`
pub record Reaches (t : List ℕ) (w at n k : ℕ) : Type 0 where
  pub filled : Filled t w (n - k + 1)
  pub column : k < w
  pub here : at ≡ (n - k) * w + k

-- row d, of w numbers, stands from `at` on
pub record Stands (t : List ℕ) (at w d : ℕ) : Type 0 where
  pub there : (j : ℕ) → j < w → get_or t (at + j) 0 ≡ stirling_of (j + d) j
