-- What a step is asked for, in either direction: whether a key can move, and what the whole has become.
-- Assumes nothing.
use Rattle.std.specs.Prelude.{◌≡◌, Bool, cond, List, ℕ, ◌+◌, ◌-◌, ltb}
use Rattle.listings.specs.Bytes.{Bytes}
use Rattle.listings.specs.Directions.{Beside, Edge}
use Rattle.listings.specs.declared.Step.{Step}
use Rattle.listings.specs.declared.Step.TheVariants.{Moved, End}
use Rattle.derangements.specs.Inner.Keys.{low_key, high_key}

-- is there a key beyond this one?
unfoldable pub goes : Bool → ℕ → ℕ → Bool
goes up n key = cond up (ltb key (high_key n)) (ltb (low_key n) key)

-- it
abbrev pub key_beside : Bool → ℕ → ℕ
key_beside up key = cond up (key + 1) (key - 1)

-- a step from x answered s and left the bytes y: the neighbour, or, where x stands at the edge, x itself
abbrev pub AfterStep : Bool → List Bytes → Bytes → Step → Bytes → Type 0
AfterStep up l x Moved y = Beside up l x y
AfterStep up l x End y = (y ≡ x) × Edge up l x
