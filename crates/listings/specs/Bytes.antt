-- Byte strings as lists of numbers, and when two are the same.
-- Assumes nothing.
use Rattle.std.specs.Prelude.{Bool, true, false, ◌&&◌, List, [], ◌∷◌, ℕ, eqb}

-- "An object is a lent byte string, one byte a place" (SCOPE 1.a)
abbrev pub Bytes : Type 0
Bytes = List ℕ

-- are they equal, byte by byte?
unfoldable pub same : Bytes → Bytes → Bool
same [] [] = true
same [] (b ∷ y) = false
same (a ∷ x) [] = false
same (a ∷ x) (b ∷ y) = eqb a b && same x y
