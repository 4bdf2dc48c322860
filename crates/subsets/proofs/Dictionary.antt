-- Paper 01's slip of the saw: "Subsets by dictionary put 1 4 before 2 3; here 2 3 comes earlier".
-- Assumes nothing.
use mathlib.Core.Path.{◌≡◌, refl}
use mathlib.Core.Bool.{true}
use mathlib.Core.List.{[], ◌∷◌}
use Rattle.listings.specs.Bytes.{same}
use Rattle.listings.specs.Orders.{lex_before, colex_by}
use Rattle.subsets.specs.Objects.{subset_before}

pub not_by_dictionary : (lex_before (1 ∷ 4 ∷ []) (2 ∷ 3 ∷ []) ≡ true) × (subset_before (2 ∷ 3 ∷ []) (1 ∷ 4 ∷ []) ≡ true)
unfolding lex_before colex_by same
not_by_dictionary = (refl, refl)
