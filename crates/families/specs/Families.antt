-- What the table (SCOPE 1) says of a family and everything lent beside it: whether it is allowed, its objects, their order, its listing and count.
-- Assumes nothing.
use Rattle.std.specs.Prelude.{Bool, true, cond, ◌&&◌, List, [], ◌∷◌, ℕ, leb, eqb, length, get_or}
use Rattle.basics.specs.Limits.{floors}
use Rattle.listings.specs.Bytes.{Bytes}
use Rattle.listings.specs.Places.{count_before}
use Rattle.listings.specs.Rows.{Row}
use Rattle.listings.specs.Calls.{Question}
use Rattle.families.specs.declared.Family.{Family}
use Rattle.families.specs.Table.{Lent, no_row, table, last_kind}

-- the family's row (SCOPE 1)
unfoldable pub row : Family → Lent → Row
row f b = get_or (table f b) f.kind (no_row b)

-- question 1: "Question 1 now allows 1 to 7" (SCOPE 4.1)
unfoldable pub is_kind : Family → Bool
is_kind f = leb 1 f.kind && leb f.kind last_kind

-- question 2: "Are n and k within the table above?" (SCOPE 4.2)
unfoldable pub in_table : Family → Lent → Bool
in_table f b = (row f b).in_bounds

-- question 10: "is the floor 1 to 80, and 1 for every kind but 5?" (SCOPE 4.10)
unfoldable pub floor_fits : Family → Bool
floor_fits f = cond (eqb f.kind 5) (leb 1 f.floor && leb f.floor floors) (eqb f.floor 1)

-- question 11: "is the edition 1 or 2, and 1 for every kind but 4?" (SCOPE 4.11)
unfoldable pub edition_fits : Family → Bool
edition_fits f = cond (eqb f.kind 4) (leb 1 f.edition && leb f.edition 2) (eqb f.edition 1)

-- question 3: "Is the count list n long for kind 2 with a sum of at most 80, and empty for other kinds?" (SCOPE 4.3)
unfoldable pub lists_fit : Family → Lent → Bool
lists_fit f b = (row f b).lists_fit

-- a question that is put to every call
abbrev pub always : ℕ → Bool → Question
always q answer = record { number = q; yes? = answer }

-- the questions that are put to every call (SCOPE 4.1 to 4.3), with 10 and 11 between: "question 2 is followed by" 10 (SCOPE 4.10), and "after number 10's
-- question comes" 11 (SCOPE 4.11)
unfoldable pub asked_of_all : Family → Lent → List Question
asked_of_all f b = always 1 (is_kind f) ∷ always 2 (in_table f b) ∷ always 10 (floor_fits f) ∷ always 11 (edition_fits f) ∷ always 3 (lists_fit f b) ∷ []

-- are all answers yes?
unfoldable pub all_yes : List Question → Bool
all_yes [] = true
all_yes (q ∷ qs) = q.yes? && all_yes qs

-- what "the table above" allows (SCOPE 5.1)
unfoldable pub allowed : Family → Lent → Bool
allowed f b = all_yes (asked_of_all f b)

-- the column "length" (SCOPE 1)
unfoldable pub object_length : Family → Lent → ℕ
object_length f b = (row f b).object_length

-- x is an object of the family (SCOPE 1); "what the table above doesn't allow" has none (SCOPE 5.1)
unfoldable pub is_object : Family → Lent → Bytes → Bool
is_object f b x = allowed f b && (row f b).is_object x

-- "Which of two objects comes first" (SCOPE 2)
unfoldable pub comes_before : Family → Lent → Bytes → Bytes → Bool
comes_before f b = (row f b).comes_before

-- "The listing of a family is all its objects, each exactly once, in the order above; what the table above doesn't allow has an empty one" (SCOPE 5.1)
unfoldable pub listing : Family → Lent → List Bytes
listing f b = cond (allowed f b) (row f b).listing []

-- "COUNT gives the number of objects" (SCOPE 3.1)
unfoldable pub count_of : Family → Lent → ℕ
count_of f b = length (listing f b)

-- the rank: how many objects come before x, by the order (SCOPE 2.a)
unfoldable pub rank_of : Family → Lent → Bytes → ℕ
rank_of f b x = count_before (comes_before f b) x (listing f b)
