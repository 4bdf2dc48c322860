-- A row of paper 01's table of families (SCOPE 1), said of one family with everything lent beside it, and the laws that each kind proves of its row.
-- Assumes nothing.
use Rattle.std.specs.Prelude.{◌≡◌, Bool, true, List, ℕ, ◌≤◌, ltb, length}
use Rattle.basics.specs.Limits.{longest_object}
use Rattle.listings.specs.Bytes.{Bytes}
use Rattle.listings.specs.Listings.{Listing}

-- what the table, the order and the counting rule of one kind say of a family
pub record Row : Type 0 where
  -- "n, k": are they within the table? (SCOPE 4.2)
  pub in_bounds : Bool
  -- does the list lent beside the family fit? (SCOPE 4.3)
  pub lists_fit : Bool
  -- the column "length" (SCOPE 1)
  pub object_length : ℕ
  -- the column "object" (SCOPE 1)
  pub is_object : Bytes → Bool
  -- "Which of two objects comes first" (SCOPE 2)
  pub comes_before : Bytes → Bytes → Bool
  -- all objects in that order (SCOPE 5.1)
  pub listing : List Bytes
  -- how many there are, as the kind's counting rule says (SCOPE 6)
  pub number : ℕ
  -- is there one? as the paper says it by n and k (SCOPE 1.b)
  pub has_object : Bool

-- what each kind proves of its row; the last three hold within the row's own bounds and lists
pub record RowLaws (r : Row) : Type 0 where
  pub lists : Listing r.is_object r.comes_before r.listing
  pub long : (x : Bytes) → r.is_object x ≡ true → length x ≡ r.object_length
  pub counted : r.in_bounds ≡ true → r.lists_fit ≡ true → length r.listing ≡ r.number
  pub positive : r.in_bounds ≡ true → r.lists_fit ≡ true → ltb 0 r.number ≡ r.has_object
  pub short : r.in_bounds ≡ true → r.lists_fit ≡ true → r.object_length ≤ longest_object
