-- The entries of a list that pass a test, in their order.
-- Assumes nothing.
use Rattle.std.specs.Prelude.{Bool, cond, List, [], ◌∷◌}

-- "The order is unchanged": what is left of a listing without the objects that a narrower family doesn't have (SCOPE 1.e)
unfoldable pub kept : {A : Type 0} → (A → Bool) → List A → List A
kept t [] = []
kept t (x ∷ l) = cond (t x) (x ∷ kept t l) (kept t l)
