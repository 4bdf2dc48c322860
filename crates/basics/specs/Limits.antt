-- The limits of paper 01's table of families (SCOPE 1), each named once.
-- Assumes nothing.
use Rattle.std.specs.Prelude.{ℕ}

-- "A family has no more than 80 places" (SCOPE 1.a); n and k are "0 to 80" (SCOPE 1.1 to 1.5)
abbrev pub places : ℕ
places = 80

-- the room that any object needs, a byte a place (SCOPE 1.a)
abbrev pub longest_object : ℕ
longest_object = places

-- kind 6: "n branches, 0 to 40" (SCOPE 1.6)
abbrev pub branches : ℕ
branches = 40

-- "is the floor 1 to 80 .. ?" (SCOPE 4.10), which is no number of places
abbrev pub floors : ℕ
floors = 80
