-- What the searches behind a step look for: the first part that can move.
-- Assumes nothing.
use Rattle.std.specs.Prelude.{Option, None, Some, ℕ, ◌+◌, ◌*◌, ◌≤◌, ◌<◌, length, take, get_or}
use Rattle.basics.specs.Sums.{total}
use Rattle.listings.specs.Bytes.{Bytes}

-- no part in front of place r can go up by one: those in front of it have none to give, or don't stay as large
abbrev pub Full : Bytes → ℕ → Type 0
Full x r = (j : ℕ) → j < r → total (take j x) ≤ j * (get_or x j 0 + 1)

-- the first place whose part can go up by one, since the parts in front have one to give and stay at least as large; or none
abbrev pub ToRaise : Bytes → Option ℕ → Type 0
ToRaise x None = Full x (length x)
ToRaise x (Some r) = (r < length x) × (Full x r) × (r * (get_or x r 0 + 1) < total (take r x))

-- no part in front of place r, but the first, is above the one there, or the floor
abbrev pub Level : ℕ → Bytes → ℕ → Type 0
Level f x r = (j : ℕ) → j < r → 0 < j → get_or x j 0 ≤ get_or x r f

-- the first place behind another whose part can go down by one, since it is above the next, or the floor; or none
abbrev pub ToLower : ℕ → Bytes → Option ℕ → Type 0
ToLower f x None = Level f x (length x)
ToLower f x (Some r) = (r < length x) × (Level f x r) × (0 < r) × (get_or x (r + 1) f < get_or x r 0)
