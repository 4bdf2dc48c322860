-- The two directions of a step: which letter precedes which, and the words after which no word of the same letters comes.
-- Assumes nothing.
use Rattle.std.specs.Prelude.{◌≡◌, Bool, false, cond, not, ℕ, ltb}
use mathlib.Core.List.{Memᴰ}
use Rattle.listings.specs.Bytes.{Bytes}
use Rattle.listings.specs.Listings.{Ascending}

-- does a come before b, or, going back, after it?
unfoldable pub precedes_by : Bool → ℕ → ℕ → Bool
precedes_by up a b = cond up (ltb a b) (ltb b a)

-- no letter precedes a later one
abbrev pub Spent : Bool → Bytes → Type 0
Spent up x = Ascending (λ a b. not (precedes_by up a b)) x

-- a precedes no letter of the word
abbrev pub NoneBeyond : Bool → ℕ → Bytes → Type 0
NoneBeyond up a x = (c : ℕ) → Memᴰ c x → precedes_by up a c ≡ false
