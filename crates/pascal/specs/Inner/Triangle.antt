-- Paper 01's table of binomial coefficients as a list. No public contract cites this file.
-- Assumes nothing.
use Rattle.std.specs.Prelude.{◌≡◌, List, ℕ, ◌+◌, ◌*◌, ◌/◌, ◌≤◌, get_or}
use Rattle.numbers.specs.Numbers.{choose}

-- "row 67 is the last whose every entry is below 2^64"
abbrev pub last_row : ℕ
last_row = 67

-- "Rows 0 to 67 of Pascal's triangle", row after row
pub record Triangle (t : List ℕ) : Type 0 where
  pub there : (n k : ℕ) → n ≤ last_row → k ≤ n → get_or t (n * (n + 1) / 2 + k) 0 ≡ choose n k
