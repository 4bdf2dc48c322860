-- What NEXT and PREVIOUS do, by what follows what: a neighbour is stepped to, and past the last and the first there is END. And where an object stands.
-- Assumes nothing.
use mathlib.Core.Path.{◌≡◌, refl, sym, ap, ◌∙◌}
use mathlib.Core.Bool.{Bool}
use mathlib.Core.Option.{Option, none, some, some-injective, none-ne-some}
use mathlib.Core.List.{List}
use Prim.Native.Nat.{ℕ, zero, suc}
use native.Mathlib.Omega.{arith}
use lib.ListN.{get_or}
use Rattle.listings.specs.Bytes.{Bytes}
use Rattle.listings.specs.Listings.{Listing}
use Rattle.listings.specs.Places.{At, Follows, First, Last}
use Rattle.listings.specs.Calls.{NEXT, PREVIOUS, Answer, STEPPED, END, Said, place_of, onward, backward, stepped, act}
use Rattle.listings.specs.Directions.{step_call, Beside, after, before, Edge, latest, earliest}
use Rattle.listings.proofs.PlaceRules.{at_below}
use Rattle.listings.proofs.Standing.{get_elem_some, get_elem_none, Found, Tells, place-tells, place_at}

-- what a step that was answered so found

pub stepped-some : (o : Option Bytes) (x : Bytes) {y : Bytes} → ◌≡◌ {A = Said} (STEPPED, y) (stepped x o) → o ≡ some y
unfolding stepped
stepped-some none x e = let a = ap (λ (s : Said). s.0) e in let z : ◌≡◌ {A = ℕ} 0 1 = cc in absurd (omega arith)
stepped-some (some z) x e = ap {B = Option Bytes} some (sym (ap (λ (s : Said). s.1) e))

pub stepped-none : (o : Option Bytes) (x : Bytes) {a : Answer} {y : Bytes} → (a ≡ STEPPED → ⊥) → ◌≡◌ {A = Said} (a, y) (stepped x o) → o ≡ none
unfolding stepped
stepped-none none x h e = refl
stepped-none (some z) x h e = absurd (h (ap (λ (s : Said). s.0) e))

found_at : {l : List Bytes} {x : Bytes} {p : ℕ} → Found l x p → At l x p
found_at {l} {x} {p} f = get_elem_some l p x f.inside ∙ ap {B = Option Bytes} some (f.there x)

-- a NEXT or PREVIOUS that says it stepped has stepped to a neighbour

pub stepped_on : (lt : Bytes → Bytes → Bool) (l : List Bytes) (x : Bytes) {y : Bytes} → ◌≡◌ {A = Said} (STEPPED, y) (act NEXT lt l x) → Follows l x y
unfolding act onward
stepped_on lt l x {y} e = go (place_of l x) (place-tells l x) (stepped-some (onward l (place_of l x)) x e)
  where
    go : (m : Option ℕ) → Tells l x m → onward l m ≡ some y → Follows l x y
    go none t h = absurd (none-ne-some y h)
    go (some p) t h = record { place = p; here = found_at t; there = h }

pub stepped-back : (lt : Bytes → Bytes → Bool) (l : List Bytes) (x : Bytes) {y : Bytes} → ◌≡◌ {A = Said} (STEPPED, y) (act PREVIOUS lt l x) → Follows l y x
unfolding act backward
stepped-back lt l x {y} e = go (place_of l x) (place-tells l x) (stepped-some (backward l (place_of l x)) x e)
  where
    go : (m : Option ℕ) → Tells l x m → backward l m ≡ some y → Follows l y x
    go none t h = absurd (none-ne-some y h)
    go (some zero) t h = absurd (none-ne-some y h)
    go (some (suc p)) t h = record { place = p; here = h; there = found_at t }

module _ {object : Bytes → Bool} {lt : Bytes → Bytes → Bool} {l : List Bytes} (lists : Listing object lt l) where
  -- what stands at place p has the place p
  pub place_here : (p : ℕ) {x : Bytes} → At l x p → place_of l x ≡ some p
  place_here p {x} h =
      let inside = at_below l p h in
      let there : get_or l p x ≡ x = some-injective (get_or l p x) x (sym (get_elem_some l p x inside) ∙ h) in
      ap (place_of l) (sym there) ∙ place_at lists p x inside

  -- neighbours differ
  pub neighbours_differ : {x y : Bytes} → Follows l x y → x ≡ y → ⊥
  neighbours_differ {x} {y} s e =
      let n : s.place ≡ suc s.place = some-injective s.place (suc s.place) (sym (place_here s.place s.here) ∙ ap (place_of l) e ∙ place_here (suc s.place) s.there) in
      omega arith

  pub next-steps : {x y : Bytes} → Follows l x y → ◌≡◌ {A = Said} (STEPPED, y) (act NEXT lt l x)
  unfolding act onward stepped
  next-steps s = rw (place_here s.place s.here, s.there)

  pub next_ends : {x : Bytes} → Last l x → ◌≡◌ {A = Said} (END, x) (act NEXT lt l x)
  unfolding act onward stepped
  next_ends s = rw (place_here s.place s.here, get_elem_none l (suc s.place) (omega (arith, s.final)))

  pub previous_steps : {x y : Bytes} → Follows l x y → ◌≡◌ {A = Said} (STEPPED, x) (act PREVIOUS lt l y)
  unfolding act backward stepped
  previous_steps s = rw (place_here (suc s.place) s.there, s.here)

  pub previous_ends : {x : Bytes} → First l x → ◌≡◌ {A = Said} (END, x) (act PREVIOUS lt l x)
  unfolding act backward stepped
  previous_ends h = rw (place_here 0 h)

  -- in either direction
  pub steps : {up : Bool} {x y : Bytes} → Beside up l x y → ◌≡◌ {A = Said} (STEPPED, y) (act (step_call up) lt l x)
  steps (after f) = next-steps f
  steps (before f) = previous_steps f

  pub stops : {up : Bool} {x : Bytes} → Edge up l x → ◌≡◌ {A = Said} (END, x) (act (step_call up) lt l x)
  stops (latest h) = next_ends h
  stops (earliest h) = previous_ends h
