-- A Dyck word that isn't empty "is 1, an inside plan, 0, a rest plan, in one way only" (SCOPE 1.d): a binary tree, and the order by it (SCOPE 2.6).
-- Assumes nothing.
use Rattle.std.specs.Prelude.{Bool, true, false, ◌&&◌, ◌||◌, List, [], ◌∷◌, ◌++◌, ℕ, zero, suc, ◌+◌, ltb, eqb, get_or}
use Rattle.listings.specs.Bytes.{Bytes}

-- a row of paper 01: no branch, or a branch (a prime word, 1 inside 0) and the rest of the row (SCOPE 1.d)
pub data Tree : Type 0 where
  leaf : Tree
  node : Tree → Tree → Tree

-- how many branches: half the length of the word
unfoldable pub size : Tree → ℕ
size leaf = 0
size (node i r) = suc (size i + size r)

-- "1, an inside plan, 0, a rest plan" (SCOPE 1.d)
unfoldable pub word : Tree → Bytes
word leaf = []
word (node i r) = 1 ∷ (word i ++ (0 ∷ word r))

-- are they equal? "at equal insides" (SCOPE 2.6)
unfoldable pub same_tree : Tree → Tree → Bool
same_tree leaf leaf = true
same_tree leaf (node j s) = false
same_tree (node i r) leaf = false
same_tree (node i r) (node j s) = same_tree i j && same_tree r s

-- "The shorter inside first; at equal length the earlier inside; at equal insides the earlier rest" (SCOPE 2.6)
unfoldable pub tree_before : Tree → Tree → Bool
tree_before leaf u = false
tree_before (node i r) leaf = false
tree_before (node i r) (node j s) =
    ltb (size i) (size j) || (eqb (size i) (size j) && (tree_before i j || (same_tree i j && tree_before r s)))

-- a 1 in front of an inside and a rest
unfoldable pub join : List Tree → List Tree
join [] = []
join (i ∷ []) = i ∷ []
join (i ∷ r ∷ ts) = node i r ∷ ts

-- read from the right, the rows that are still open: the end starts one, and so does each 0; a 1 closes one
unfoldable pub open_rows : Bytes → List Tree
open_rows [] = leaf ∷ []
open_rows (zero ∷ x) = leaf ∷ open_rows x
open_rows (suc b ∷ x) = join (open_rows x)

-- the tree of a word (SCOPE 1.d)
unfoldable pub parse : Bytes → Tree
parse x = get_or (open_rows x) 0 leaf

-- "Which of two objects comes first", kind 6 (SCOPE 2.6)
unfoldable pub dyck_before : Bytes → Bytes → Bool
dyck_before x y = tree_before (parse x) (parse y)
