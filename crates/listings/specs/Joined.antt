-- Loehr's product rule on byte strings: an object of one listing, then one of another, the second running fastest.
-- Assumes nothing.
use Rattle.std.specs.Prelude.{Bool, ◌&&◌, ◌||◌, List, ◌++◌, ℕ, take, drop}
use Rattle.listings.specs.Bytes.{Bytes, same}
use Rattle.listings.specs.Choices.{by_choice}

-- the first k bytes are an object of the first listing, and the others of the second
unfoldable pub in_parts : ℕ → (Bytes → Bool) → (Bytes → Bool) → Bytes → Bool
in_parts k object₁ object₂ x = object₁ (take k x) && object₂ (drop k x)

-- by the first parts, and by the second where the firsts are the same
unfoldable pub by_parts : ℕ → (Bytes → Bytes → Bool) → (Bytes → Bytes → Bool) → Bytes → Bytes → Bool
by_parts k lt₁ lt₂ x y = lt₁ (take k x) (take k y) || (same (take k x) (take k y) && lt₂ (drop k x) (drop k y))

-- every first with every second
unfoldable pub joined : List Bytes → List Bytes → List Bytes
joined l m = by_choice l (λ x. m) (λ x y. x ++ y)
