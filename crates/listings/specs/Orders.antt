-- The two orders on byte strings of one length that several kinds share (SCOPE 2).
-- Assumes nothing.
use Rattle.std.specs.Prelude.{Bool, false, ◌&&◌, ◌||◌, [], ◌∷◌, ℕ, ltb, eqb}
use Rattle.listings.specs.Bytes.{Bytes, same}

-- lexicographic order, of kinds 2 and 3: "at the first place where they differ, the smaller letter" (SCOPE 2.2, 2.3)
unfoldable pub lex_before : Bytes → Bytes → Bool
lex_before [] y = false
lex_before (a ∷ x) [] = false
lex_before (a ∷ x) (b ∷ y) = ltb a b || (eqb a b && lex_before x y)

-- colexicographic order by an order of the letters: the letters at the last place where they differ decide (SCOPE 2.1, 2.4, 2.5)
unfoldable pub colex_by : (ℕ → ℕ → Bool) → Bytes → Bytes → Bool
colex_by lt [] y = false
colex_by lt (a ∷ x) [] = false
colex_by lt (a ∷ x) (b ∷ y) = colex_by lt x y || (same x y && lt a b)

-- of kinds 1 and 5: "at the last place where they differ, the smaller site number", "the smaller part" (SCOPE 2.1, 2.5)
abbrev pub colex_before : Bytes → Bytes → Bool
colex_before = colex_by ltb
