-- Listings by choices, after Loehr: the shape that every kind's listing has.
-- Assumes nothing.
use mathlib.Core.List.{List, map, flat_map}

-- over the choices in their order, for each the listing of what is left to choose, with the choice put on (SCOPE 5.1)
abbrev pub by_choice : {A B C : Type 0} → List C → (C → List A) → (C → A → B) → List B
by_choice cs part put = flat_map (λ c. map (put c) (part c)) cs
