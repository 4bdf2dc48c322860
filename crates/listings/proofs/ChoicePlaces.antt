-- Where things stand in a listing by choices, its first and its last, and its neighbours: within a choice, and at the seam of two. And what
-- follows what goes on doing so behind the same front and before the same tail. Assumes nothing.
use mathlib.Core.Path.{◌≡◌, subst}
use mathlib.Core.Bool.{Bool, not}
use mathlib.Core.List.{List, [], ◌∷◌, ◌++◌, append-nil, append_assoc, Memᴰ}
use Prim.Native.Nat.{ℕ, ◌+◌}
use lib.ListN.{length, take}
use Rattle.basics.specs.Sums.{sum_over}
use Rattle.listings.specs.Bytes.{Bytes}
use Rattle.listings.specs.Choices.{by_choice}
use Rattle.listings.specs.Places.{At, Follows, First, Last}
use Rattle.listings.specs.Directions.{Beside, after, before, Edge, latest, earliest}
use Rattle.listings.proofs.ChoiceRules.{counted_choice}
use Rattle.listings.proofs.PlaceRules.{at_map, at_flat_map, first-map, last-map, follows_map, first-flat_map, last-flat_map, follows_flat_map_inside, follows_flat_map_seam}

module _ {A B C : Type 0} (part : C → List A) (put : C → A → B) where
  pub first_choice : (cs : List C) {c : C} {x : A} → First cs c → First (part c) x → First (by_choice cs part put) (put c x)
  first_choice cs {c} h k = first-flat_map _ cs h (first-map (put c) (part c) k)

  pub last_choice : {cs : List C} {c : C} {x : A} → Last cs c → Last (part c) x → Last (by_choice cs part put) (put c x)
  last_choice {c} h k = last-flat_map _ h (last-map (put c) k)

  -- neighbours with the same choice
  pub inside_choice : {cs : List C} {c : C} {x y : A} → Memᴰ c cs → Follows (part c) x y → Follows (by_choice cs part put) (put c x) (put c y)
  inside_choice {c} m f = follows_flat_map_inside _ m (follows_map (put c) f)

  -- the last of one choice, and the first of the next
  pub seam_choice : {cs : List C} {c d : C} {x y : A} → Follows cs c d → Last (part c) x → First (part d) y → Follows (by_choice cs part put) (put c x) (put d y)
  seam_choice {c} {d} f end start = follows_flat_map_seam _ f (last-map (put c) end) (first-map (put d) (part d) start)

  -- in either direction
  pub edge_choice : {up : Bool} {cs : List C} {c : C} {x : A} → Edge up cs c → Edge up (part c) x → Edge up (by_choice cs part put) (put c x)
  edge_choice (latest h) (latest k) = latest (last_choice h k)
  edge_choice {cs} (earliest h) (earliest k) = earliest (first_choice cs h k)

  pub beside-inside : {up : Bool} {cs : List C} {c : C} {x y : A} → Memᴰ c cs → Beside up (part c) x y → Beside up (by_choice cs part put) (put c x) (put c y)
  beside-inside m (after f) = after (inside_choice m f)
  beside-inside m (before f) = before (inside_choice m f)

  pub beside_seam : {up : Bool} {cs : List C} {c d : C} {x y : A} → Beside up cs c d → Edge up (part c) x → Edge (not up) (part d) y → Beside up (by_choice cs part put) (put c x) (put d y)
  beside_seam (after f) (latest h) (earliest k) = after (seam_choice f h k)
  beside_seam (before f) (earliest h) (latest k) = before (seam_choice f k h)

-- behind all that the choices before it give
pub at_choice : {A B : Type 0} (cs : List ℕ) (part : ℕ → List A) (put : ℕ → A → B) {g : ℕ → ℕ} → ((c : ℕ) → length (part c) ≡ g c) → (p r : ℕ) {c : ℕ} {x : A} → At cs c p → At (part c) x r
    → At (by_choice cs part put) (put c x) (sum_over (take p cs) g + r)
at_choice cs part put counted p r {c} {x} h k =
    subst (λ n. At (by_choice cs part put) (put c x) (n + r)) (counted_choice (take p cs) part put (λ d m. counted d)) (at_flat_map _ cs p r h (at_map (put c) (part c) r k))

-- a tail, letter after letter, from the state s to the state t, each of whose letters keeps neighbours

pub data Tail {S : Type 0} (l : S → List Bytes) : S → Bytes → S → Type 0 where
  ends : {s : S} → Tail l s [] s
  then : {s t u : S} {a : ℕ} {z : Bytes} → ((x y : Bytes) → Follows (l s) x y → Follows (l t) (x ++ (a ∷ [])) (y ++ (a ∷ []))) → Tail l t z u → Tail l s (a ∷ z) u

-- the same tail keeps neighbours
pub tail_keeps : {S : Type 0} {l : S → List Bytes} {s t : S} {z x y : Bytes} → Tail l s z t → Follows (l s) x y → Follows (l t) (x ++ z) (y ++ z)
tail_keeps {x} {y} ends f = rw (append-nil x, append-nil y) f
tail_keeps {x} {y} (then {a} {z} keeps rest) f = rw (append_assoc x (a ∷ []) z, append_assoc y (a ∷ []) z) at (tail_keeps rest (keeps x y f))

-- and a front

pub data Front {S : Type 0} (l : S → List Bytes) : S → Bytes → S → Type 0 where
  ends : {s : S} → Front l s [] s
  then : {s t u : S} {a : ℕ} {z : Bytes} → ((x y : Bytes) → Follows (l t) x y → Follows (l s) (a ∷ x) (a ∷ y)) → Front l t z u → Front l s (a ∷ z) u

pub front_keeps : {S : Type 0} {l : S → List Bytes} {s t : S} {z x y : Bytes} → Front l s z t → Follows (l t) x y → Follows (l s) (z ++ x) (z ++ y)
front_keeps ends f = f
front_keeps (then keeps rest) f = keeps _ _ (front_keeps rest f)

-- in either direction
pub tail_beside : {S : Type 0} {l : S → List Bytes} {s t : S} {z x y : Bytes} {up : Bool} → Tail l s z t → Beside up (l s) x y → Beside up (l t) (x ++ z) (y ++ z)
tail_beside t (after f) = after (tail_keeps t f)
tail_beside t (before f) = before (tail_keeps t f)

pub front_beside : {S : Type 0} {l : S → List Bytes} {s t : S} {z x y : Bytes} {up : Bool} → Front l s z t → Beside up (l t) x y → Beside up (l s) (z ++ x) (z ++ y)
front_beside t (after f) = after (front_keeps t f)
front_beside t (before f) = before (front_keeps t f)
