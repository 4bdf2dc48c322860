-- What the private functions on a part of a row say to each other. No public contract cites this file.
-- Assumes nothing.
use Rattle.std.specs.Prelude.{◌≡◌, List, ℕ, zero, suc, ◌+◌, ◌-◌, ◌<◌, length, get_or}
use Rattle.basics.specs.Limits.{places}
use Rattle.numbers.specs.Numbers.{choose}
use Rattle.pascal.specs.Inner.Triangle.{last_row}

-- as many entries of the last row as an entry of a row within the limit is worked out from
abbrev pub width : ℕ
width = places - last_row + 1

-- the entry of row n that lies i places before k, and 0 before the row's first
unfoldable pub back : ℕ → ℕ → ℕ → ℕ
back n k zero = choose n k
back n zero (suc i) = 0
back n (suc k) (suc i) = back n k i

-- the first m entries of d have become those of e, each with its right neighbour added
pub record Added (d : List ℕ) (m : ℕ) (e : List ℕ) : Type 0 where
  pub same : length e ≡ length d
  pub sums : (i : ℕ) → i < m → get_or e i 0 ≡ get_or d i 0 + get_or d (suc i) 0
