-- What the readers of a word say to each other, to the steps and to the ranks. No contract of a call on a kind cites this file.
-- Assumes nothing.
use Rattle.std.specs.Prelude.{◌≡◌, false, ◌++◌, ℕ, ◌+◌, ◌-◌, ◌≤◌, ◌<◌, length, get_or, drop, Option, Some, None}
use Rattle.basics.specs.Limits.{longest_object}
use Rattle.listings.specs.Bytes.{Bytes}
use Rattle.dyck_words.specs.Objects.{balanced_from}
use Rattle.dyck_words.specs.Trees.{Tree, word}

-- a reader came from one place to another: at each height the test passes on what is left before just if it passes on what is left after
pub record Passed (x : Bytes) (from to : ℕ) : Type 0 where
  pub onward : from ≤ to
  pub inside : to ≤ length x
  pub same : (h : ℕ) → balanced_from h (drop from x) ≡ balanced_from h (drop to x)

-- at no height does the test pass from here on
abbrev pub Fails : Bytes → ℕ → Type 0
Fails x from = (h : ℕ) → balanced_from h (drop from x) ≡ false

-- what a row's reader says: no 1 stands where it stopped
abbrev pub RowRead : Bytes → ℕ → Option ℕ → Type 0
RowRead x from (Some e) = Passed x from e × (get_or x e 0 ≡ 1 → ⊥)
RowRead x from None = Fails x from

-- what a branch's reader says: it came on
abbrev pub BranchRead : Bytes → ℕ → Option ℕ → Type 0
BranchRead x from (Some e) = Passed x from e × (from < e)
BranchRead x from None = Fails x from

-- the rows of at most as many bytes as an object has, one for each and one for their end: none is longer than what is left where it starts
pub record RowsFit (rows : Bytes) : Type 0 where
  pub ended : 0 < length rows
  pub short : length rows ≤ longest_object
  pub low : (k : ℕ) → k < length rows → k + get_or rows k 0 < length rows

-- how long the row is that starts with b, in front of bytes with these rows
pub record RowHere (b : ℕ) (rows : Bytes) (r : ℕ) : Type 0 where
  pub low : r ≤ length rows
  pub none : (b ≡ 1 → ⊥) → r ≡ 0
  pub some : b ≡ 1 → get_or rows 0 0 + 1 < length rows → r ≡ get_or rows 0 0 + 2 + get_or rows (get_or rows 0 0 + 1) 0

-- a row ends in front of these bytes
abbrev pub Stops : Bytes → Type 0
Stops y = get_or y 0 0 ≡ 1 → ⊥

-- the table has the length of each row of x, by the place where it starts
pub record RowsTold (x rows : Bytes) : Type 0 where
  pub long : length x < length rows
  pub tells : (a b : Bytes) (t : Tree) → x ≡ a ++ (word t ++ b) → Stops b → get_or rows (length a) 0 ≡ length (word t)

-- the table has the length of each row of x, by how many bytes are left where it starts; `left` are left where x does
pub record Told (x : Bytes) (left : ℕ) (rows : Bytes) : Type 0 where
  pub low : (k : ℕ) → get_or rows k 0 ≤ k
  pub tells : (a b : Bytes) (t : Tree) → x ≡ a ++ (word t ++ b) → Stops b → get_or rows (left - length a) 0 ≡ length (word t)
