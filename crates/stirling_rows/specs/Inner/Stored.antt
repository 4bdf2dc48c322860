-- How far the Stirling numbers of the second kind are stored.
-- Assumes nothing.
use Rattle.std.specs.Prelude.{ℕ}

-- the last row whose every number is below 2^64
abbrev pub last_row : ℕ
last_row = 26
