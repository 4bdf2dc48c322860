-- A field of columns: the number that it shows, or nothing (SCOPE 7.1).
-- Assumes nothing.
use Rattle.std.specs.Prelude.{◌&&◌, cond, [], ◌∷◌, ℕ, ◌+◌, ◌-◌, ◌*◌, leb, eqb, length}
use Rattle.std.proofs.Math.Option.{Option, none, some}
use Rattle.listings.specs.Bytes.{Bytes}
use Rattle.columns.specs.Columns.{blank}

-- "right-justified with blanks in 4 columns" (SCOPE 7.1)
abbrev pub field_width : ℕ
field_width = 4

-- the largest number that these columns show
abbrev pub largest_field : ℕ
largest_field = 9999

-- digits to the end of the field, behind those that show v
unfoldable pub digits : ℕ → Bytes → Option ℕ
digits v [] = some v
digits v (b ∷ x) = cond (leb 48 b && leb b 57) (digits (10 * v + (b - 48)) x) none

-- a field: blanks, then a number: "No leading zeros (a lone 0 is a number), no blank field" (SCOPE 7.1)
unfoldable pub field : Bytes → Option ℕ
field [] = none
field (b ∷ x) = cond (eqb b blank) (field x) (cond (eqb b 48) (cond (eqb (length x) 0) (some 0) none) (digits 0 (b ∷ x)))
