-- The two directions of a step, so that NEXT and PREVIOUS are one function and one proof: up is NEXT's.
-- Assumes nothing.
use Rattle.std.specs.Prelude.{Bool, true, false, cond, List}
use Rattle.listings.specs.Places.{Follows, First, Last}
use Rattle.listings.specs.Calls.{Call, NEXT, PREVIOUS}

-- "NEXT / PREVIOUS" (SCOPE 3.4, 3.5)
abbrev pub step_call : Bool → Call
step_call up = cond up NEXT PREVIOUS

-- y is "the one just after", or going back "before", x (SCOPE 3.4, 3.5)
pub data Beside {A : Type 0} : Bool → List A → A → A → Type 0 where
  after : {l : List A} {x y : A} → Follows l x y → Beside true l x y
  before : {l : List A} {x y : A} → Follows l y x → Beside false l x y

-- there is none: x is "the latest", or going back "the earliest" (SCOPE 3.2 to 3.5)
pub data Edge {A : Type 0} : Bool → List A → A → Type 0 where
  latest : {l : List A} {x : A} → Last l x → Edge true l x
  earliest : {l : List A} {x : A} → First l x → Edge false l x
