-- The slip (SCOPE 7.1 to 7.3): its grammar, as a function from bytes to its numbers and counts, or to nothing where it is malformed.
-- Assumes nothing.
use Rattle.std.specs.Prelude.{◌&&◌, cond, List, [], ◌∷◌, map, ℕ, zero, suc, ◌*◌, min, eqb, leb, length, get_or, take, drop}
use Rattle.std.proofs.Math.Option.{Option, none, some}
use Rattle.listings.specs.Bytes.{Bytes}
use Rattle.columns.specs.Columns.{newline}
use Rattle.columns.specs.Fields.{field_width, field}
use Rattle.grammar.specs.declared.Head.{Head}
use Rattle.grammar.specs.Sizes.{line_width, family_width}

-- what a slip says: the numbers of its first line, and the counts of the second (SCOPE 7.2)
pub record Slip : Type 0 where
  pub head : Head
  pub counts : List ℕ

-- a number in front of others, or nothing where one of them is malformed
unfoldable pub cons_field : Option ℕ → Option (List ℕ) → Option (List ℕ)
cons_field none vs = none
cons_field (some v) none = none
cons_field (some v) (some vs) = some (v ∷ vs)

-- m fields of 4 columns from the front (SCOPE 7.1)
unfoldable pub fields : ℕ → Bytes → Option (List ℕ)
fields zero x = some []
fields (suc m) x = cons_field (field (take field_width x)) (fields m (drop field_width x))

-- a line of m fields and its newline, and nothing else (SCOPE 7.2)
unfoldable pub line : ℕ → Bytes → Option (List ℕ)
line m x = cond (eqb (length x) (line_width m) && eqb (get_or x (field_width * m) 0) newline) (fields m x) none

-- "The slip's first line may have a fourth field": three fields where a newline follows the third, and else four (SCOPE 7.2)
unfoldable pub fields_on : Bytes → ℕ
fields_on x = cond (eqb (get_or x family_width 0) newline) 3 4

-- "the number that the first object gets; a line of three fields means 1" (SCOPE 7.2)
unfoldable pub start_of : List ℕ → ℕ
start_of vs = get_or vs 3 1

-- kind, n and k, with the number that the first object gets
unfoldable pub head_of : ℕ → List ℕ → Head
head_of s vs = record { kind = get_or vs 0 0; n = get_or vs 1 0; k = get_or vs 2 0; start = s }

-- "for kind 2 .. n counts" (SCOPE 7.2)
unfoldable pub counts_on : Head → ℕ
counts_on h = cond (eqb h.kind 2) h.n 0

-- "with n > 0 a second line", and no line otherwise (SCOPE 7.2)
unfoldable pub second_line : ℕ → Bytes → Option (List ℕ)
second_line zero x = cond (eqb (length x) 0) (some []) none
second_line (suc m) x = line (suc m) x

-- "A count above 255 is handed on as 255" (SCOPE 7.3)
unfoldable pub handed_on : Option (List ℕ) → Option (List ℕ)
handed_on none = none
handed_on (some cs) = some (map (λ c. min c 255) cs)

-- the slip of these numbers and counts, where the counts are well formed
unfoldable pub with_counts : Head → Option (List ℕ) → Option Slip
with_counts h none = none
with_counts h (some cs) = some (record { head = h; counts = cs })

-- the slip of these numbers, by what stands behind the first line
unfoldable pub slip_with : Head → Bytes → Option Slip
slip_with h x = with_counts h (handed_on (second_line (counts_on h) x))

-- the slip by the numbers of its first line, where this is well formed, and what stands behind it: "A fourth field with another number is a malformed slip" (SCOPE 7.2)
unfoldable pub slip_from : Option (List ℕ) → Bytes → Option Slip
slip_from none x = none
slip_from (some vs) x = cond (leb (start_of vs) 1) (slip_with (head_of (start_of vs) vs) x) none

-- "kind, n, k, each right-justified with blanks in 4 columns, then a newline; .. nothing after it" (SCOPE 7.2)
unfoldable pub slip_of : Bytes → Option Slip
slip_of x = slip_from (line (fields_on x) (take (line_width (fields_on x)) x)) (drop (line_width (fields_on x)) x)
