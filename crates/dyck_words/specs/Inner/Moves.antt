-- What the code of a step is asked for, over trees and in either direction: the first and the last tree, and the neighbours.
-- Assumes nothing.
use Rattle.std.specs.Prelude.{◌≡◌, Bool, cond, ℕ, zero, suc, length}
use Rattle.listings.specs.Bytes.{Bytes}
use Rattle.listings.specs.Directions.{Beside, Edge}
use Rattle.listings.specs.declared.Step.{Step}
use Rattle.listings.specs.declared.Step.TheVariants.{Moved, End}
use Rattle.dyck_words.specs.Trees.{Tree, leaf, node, size, word}
use Rattle.dyck_words.specs.Listing.{trees}

-- 1 0 1 0 ..
unfoldable pub first_tree : ℕ → Tree
first_tree zero = leaf
first_tree (suc n) = node leaf (first_tree n)

-- 1 .. 1 0 .. 0
unfoldable pub last_tree : ℕ → Tree
last_tree zero = leaf
last_tree (suc n) = node (last_tree n) leaf

-- what a part behind the place that moved starts over with
abbrev pub start_tree : Bool → ℕ → Tree
start_tree up n = cond up (first_tree n) (last_tree n)

-- the neighbours and the edges among the trees of as many branches

abbrev pub Neighbour : Bool → Tree → Tree → Type 0
Neighbour up t u = Beside up (trees (size t)) t u

abbrev pub AtEdge : Bool → Tree → Type 0
AtEdge up t = Edge up (trees (size t)) t

-- a step from the word of t answered s and left the bytes y: the word of the neighbour, or, where t stands at the edge, its own
abbrev pub AfterStep : Bool → Tree → Step → Bytes → Type 0
AfterStep up t Moved y = (u : Tree) × (y ≡ word u) × Neighbour up t u
AfterStep up t End y = (y ≡ word t) × AtEdge up t

-- x is 1, the word of i, of the length len, 0, and the word of r
pub record Parts (x : Bytes) (len : ℕ) (i r : Tree) : Type 0 where
  pub whole : x ≡ word (node i r)
  pub long : len ≡ length (word i)
