-- What it means that a list is the listing of some objects in an order (SCOPE 5.1).
-- Assumes nothing.
use Rattle.std.specs.Prelude.{◌≡◌, ◌⊎◌, Bool, true}
use mathlib.Core.List.{List, [], ◌∷◌, Memᴰ}

-- each comes before every later one
pub data Ascending {A : Type 0} (lt : A → A → Bool) : List A → Type 0 where
  none : Ascending lt []
  more : {x : A} {l : List A} → ((y : A) → Memᴰ y l → lt x y ≡ true) → Ascending lt l → Ascending lt (x ∷ l)

-- of two different objects just one comes first (SCOPE 2.a), and what comes before one that comes before a third comes before the third
pub record StrictTotal {A : Type 0} (object : A → Bool) (lt : A → A → Bool) : Type 0 where
  pub irreflexive : (x : A) → object x ≡ true → lt x x ≡ true → ⊥
  pub transitive : (x y z : A) → object x ≡ true → object y ≡ true → object z ≡ true → lt x y ≡ true → lt y z ≡ true → lt x z ≡ true
  pub total : (x y : A) → object x ≡ true → object y ≡ true → (lt x y ≡ true) ⊎ ((x ≡ y) ⊎ (lt y x ≡ true))

-- "The listing of a family is all its objects, each exactly once, in the order above" (SCOPE 5.1)
pub record Listing {A : Type 0} (object : A → Bool) (lt : A → A → Bool) (l : List A) : Type 0 where
  pub order : StrictTotal object lt
  pub every : (x : A) → object x ≡ true → Memᴰ x l
  pub only : (x : A) → Memᴰ x l → object x ≡ true
  pub ascending : Ascending lt l
