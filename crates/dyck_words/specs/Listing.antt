-- The listing (SCOPE 5.1) of Dyck words, after Loehr: by the inside's size, then the inside, then the rest.
-- Assumes nothing.
use mathlib.Core.List.{List, [], ◌∷◌, map, flat_map}
use Rattle.std.specs.Prelude.{ℕ, zero, suc, ◌-◌, get_or}
use Rattle.basics.specs.Sums.{range}
use Rattle.listings.specs.Bytes.{Bytes}
use Rattle.listings.specs.Choices.{by_choice}
use Rattle.dyck_words.specs.Trees.{Tree, leaf, node, word}

-- the product rule: every inside with every rest, the rest running fastest
unfoldable pub nodes : List Tree → List Tree → List Tree
nodes is rs = by_choice is (λ i. rs) node

-- the trees of n, n - 1, .., 0 branches: the inside has j branches, and the rest the others
unfoldable pub trees_down : ℕ → List (List Tree)
trees_down zero = (leaf ∷ []) ∷ []
trees_down (suc n) = flat_map (λ j. nodes (get_or (trees_down n) (n - j) []) (get_or (trees_down n) j [])) (range 0 (suc n)) ∷ trees_down n

-- the trees of n branches
unfoldable pub trees : ℕ → List Tree
trees n = get_or (trees_down n) 0 []

-- "2n bytes", as the trees are listed (SCOPE 1.6, 2.6)
unfoldable pub dyck_words : ℕ → List Bytes
dyck_words n = map word (trees n)
