-- What the searches behind a step look for: the first number that can move.
-- Assumes nothing.
use Rattle.std.specs.Prelude.{ℕ, suc, ◌≤◌, ◌<◌, get_or}
use Rattle.listings.specs.Bytes.{Bytes}

-- no number in front of place r leaves room below the next; n + 1 stands behind the last
abbrev pub Tight : ℕ → Bytes → ℕ → Type 0
Tight n x r = (i : ℕ) → i < r → get_or x (suc i) (suc n) ≤ suc (get_or x i 0)

-- every number in front of place r is the smallest that it can be, its place counted from 1
abbrev pub Low : Bytes → ℕ → Type 0
Low x r = (i : ℕ) → i < r → get_or x i 0 ≤ suc i
