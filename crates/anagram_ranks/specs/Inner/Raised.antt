-- What the letters of a permutation become where a letter is put in front of them.
-- Assumes nothing.
use Rattle.std.specs.Prelude.{ℕ, ◌+◌, leb}
use Rattle.listings.specs.Places.{tick}

-- letter b where letter a is put in front: from a on it goes up by one
unfoldable pub raised : ℕ → ℕ → ℕ
raised a b = b + tick (leb a b)
