-- Paper 01's slip of the saw: "Branch plans by dictionary put 11010100 before 11100010; here it comes after".
-- Assumes nothing.
use mathlib.Core.Path.{◌≡◌, refl}
use mathlib.Core.Bool.{true}
use mathlib.Core.List.{[], ◌∷◌}
use Rattle.listings.specs.Orders.{lex_before}
use Rattle.dyck_words.specs.Trees.{size, same_tree, tree_before, join, open_rows, parse, dyck_before}

pub not_by_dictionary :
    (lex_before (1 ∷ 1 ∷ 0 ∷ 1 ∷ 0 ∷ 1 ∷ 0 ∷ 0 ∷ []) (1 ∷ 1 ∷ 1 ∷ 0 ∷ 0 ∷ 0 ∷ 1 ∷ 0 ∷ []) ≡ true) × (dyck_before (1 ∷ 1 ∷ 1 ∷ 0 ∷ 0 ∷ 0 ∷ 1 ∷ 0 ∷ []) (1 ∷ 1 ∷ 0 ∷ 1 ∷ 0 ∷ 1 ∷ 0 ∷ 0 ∷ []) ≡ true)
unfolding lex_before size same_tree tree_before join open_rows parse dyck_before
not_by_dictionary = (refl, refl)
