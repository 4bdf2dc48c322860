-- In a listing the place of an object is the number of objects before it, and neighbours are the objects with none between.
-- Assumes nothing.
use mathlib.Core.Path.{◌≡◌, refl, subst}
use mathlib.Core.Logic.{◌⊎◌, inl, inr}
use mathlib.Core.Bool.{Bool, true, false, cond}
use mathlib.Core.Option.{some-injective, none-ne-some}
use mathlib.Core.List.Memᴰ
use mathlib.Core.List.{List, [], ◌∷◌, Memᴰ}
use Prim.Native.Nat.{ℕ, zero, suc, ◌<◌}
use native.Mathlib.Nat.{eq-or-lt_of_le}
use native.Mathlib.Omega.{arith}
use lib.ListN.{length}
use Rattle.listings.specs.Listings.{Ascending, none, more, StrictTotal, Listing}
use Rattle.listings.specs.Places.{At, Follows, First, Last, count_before}
use Rattle.listings.specs.Directions.{Beside, after, before as back, Edge, latest, earliest}
use Rattle.basics.proofs.Bools.{fails}
use Rattle.listings.proofs.OrderFacts.{trichotomy}
use Rattle.listings.proofs.PlaceRules.{at_below, at_exists, at_member, member_at, at_unique_element}
use Rattle.listings.proofs.Uniqueness.{asymmetric}

none_before : {A : Type 0} (lt : A → A → Bool) (x : A) (l : List A) → ((y : A) → Memᴰ y l → lt y x ≡ false) → count_before lt x l ≡ 0
unfolding count_before
none_before lt x [] h = refl
none_before lt x (y ∷ l) h = rw (h y (Memᴰ.head refl), none_before lt x l (λ z k. h z (Memᴰ.tail k)))

-- an earlier place is earlier in the order
pub at_before : {A : Type 0} {lt : A → A → Bool} {l : List A} {x y : A} (p q : ℕ) → Ascending lt l → At l x p → At l y q → p < q → lt x y ≡ true
at_before {x} p q none h k less = absurd (none-ne-some x h)
at_before p zero (more before rest) h k less = absurd (omega arith)
at_before {lt} {x} {y} zero (suc q) (more {x = a} {l} before rest) h k less = subst (λ z. lt z y ≡ true) (some-injective a x h) (before y (at_member l q k))
at_before (suc p) (suc q) (more before rest) h k less = at_before p q rest h k (omega arith)

-- lists of objects that ascend: what remains of a listing when its first objects are left out

module _ {A : Type 0} {object : A → Bool} {lt : A → A → Bool} (order : StrictTotal object lt) where
  -- nothing comes before the first
  head_least : {a y : A} {l : List A} → Ascending lt (a ∷ l) → ((z : A) → Memᴰ z (a ∷ l) → object z ≡ true) → Memᴰ y (a ∷ l) → lt y a ≡ true → ⊥
  head_least {a} {y} {l} (more before rest) objects k less = step (Memᴰ.cases_cons k)
    where
      step : (y ≡ a) ⊎ Memᴰ y l → ⊥
      step (inl e) = order.irreflexive a (objects a (Memᴰ.head refl)) (subst (λ z. lt z a ≡ true) e less)
      step (inr j) = asymmetric order a y (objects a (Memᴰ.head refl)) (objects y (Memᴰ.tail j)) (before y j) less

  rank_from : (l : List A) (r : ℕ) {x : A} → Ascending lt l → ((z : A) → Memᴰ z l → object z ≡ true) → At l x r → count_before lt x l ≡ r
  unfolding count_before
  rank_from [] r {x} up objects h = absurd (none-ne-some x h)
  rank_from (a ∷ l) zero {x} up objects h =
      subst (λ z. count_before lt z (a ∷ l) ≡ 0) (some-injective a x h) (none_before lt a (a ∷ l) (λ y k. fails (lt y a) (head_least up objects k)))
  rank_from (a ∷ l) (suc r) {x} (more before rest) objects h =
      rw (before x (at_member l r h)) (omega (arith, rank_from l r rest (λ z k. objects z (Memᴰ.tail k)) h))

-- a listing

module _ {A : Type 0} {object : A → Bool} {lt : A → A → Bool} {l : List A} (listing : Listing object lt l) where
  -- the place is the rank by the order
  pub place-is_rank : (r : ℕ) {x : A} → At l x r → count_before lt x l ≡ r
  place-is_rank r h = rank_from listing.order l r listing.ascending listing.only h

  object_at : (x : A) → object x ≡ true → (r : ℕ) × At l x r
  object_at x o = member_at (listing.every x o)

  -- an object stands at its rank, which is below the count

  pub at_rank : (x : A) → object x ≡ true → At l x (count_before lt x l)
  at_rank x o = let (r, h) = object_at x o in rw (place-is_rank r h) h

  pub rank_below : (x : A) → object x ≡ true → count_before lt x l < length l
  rank_below x o = at_below l (count_before lt x l) (at_rank x o)

  at_object : (r : ℕ) {x : A} → At l x r → object x ≡ true
  at_object r {x} h = listing.only x (at_member l r h)

  -- places are in the order of what stands there
  pub before_at : (p q : ℕ) {x y : A} → At l x p → At l y q → lt x y ≡ true → p < q
  before_at p q {x} {y} h k less = step (trichotomy p q)
    where
      step : (p < q) ⊎ ((p ≡ q) ⊎ (q < p)) → p < q
      step (inl e) = e
      step (inr (inl e)) = absurd (listing.order.irreflexive x (at_object p h) (rw (at_unique_element l q k (rw e at h)) at less))
      step (inr (inr e)) = absurd (asymmetric listing.order x y (at_object p h) (at_object q k) less (at_before q p listing.ascending k h e))

  pub none_between : {x y : A} → object x ≡ true → object y ≡ true → lt x y ≡ true → ((z : A) → object z ≡ true → lt x z ≡ true → lt z y ≡ true → ⊥) → Follows l x y
  none_between {x} {y} o o' less empty = step (object_at x o) (object_at y o')
    where
      next : (p q : ℕ) → At l x p → At l y q → (suc p < q) ⊎ ((suc p ≡ q) ⊎ (q < suc p)) → Follows l x y
      next p q h k (inl e) =
          let (z, j) = at_exists l (suc p) (omega (arith, at_below l q k)) in
          absurd (empty z (at_object (suc p) j) (at_before p (suc p) listing.ascending h j (omega arith)) (at_before (suc p) q listing.ascending j k e))
      next p q h k (inr (inl e)) = record { place = p; here = h; there = rw e k }
      next p q h k (inr (inr e)) = absurd (omega (arith, before_at p q h k less))

      step : (p : ℕ) × At l x p → (q : ℕ) × At l y q → Follows l x y
      step a b = next a.0 b.0 a.1 b.1 (trichotomy (suc a.0) b.0)

  pub least_first : {x : A} → object x ≡ true → ((z : A) → object z ≡ true → lt z x ≡ true → ⊥) → First l x
  least_first {x} o least = step (object_at x o).0 (object_at x o).1
    where
      step : (p : ℕ) → At l x p → First l x
      step zero h = h
      step (suc p) h = let (z, j) = at_exists l 0 (omega (arith, at_below l (suc p) h)) in absurd (least z (at_object 0 j) (at_before 0 (suc p) listing.ascending j h (omega arith)))

  pub greatest_last : {x : A} → object x ≡ true → ((z : A) → object z ≡ true → lt x z ≡ true → ⊥) → Last l x
  greatest_last {x} o greatest = step (object_at x o)
    where
      next : (p : ℕ) → At l x p → (suc p ≡ length l) ⊎ (suc p < length l) → Last l x
      next p h (inl e) = record { place = p; here = h; final = e }
      next p h (inr e) = let (z, j) = at_exists l (suc p) e in absurd (greatest z (at_object (suc p) j) (at_before p (suc p) listing.ascending h j (omega arith)))

      step : (p : ℕ) × At l x p → Last l x
      step a = next a.0 a.1 (eq-or-lt_of_le (at_below l a.0 a.1))

  -- in either direction

  pub edge_none : (up : Bool) {x : A} → object x ≡ true → ((z : A) → object z ≡ true → cond up (lt x z) (lt z x) ≡ true → ⊥) → Edge up l x
  edge_none true o free = latest (greatest_last o free)
  edge_none false o free = earliest (least_first o free)

  pub beside_none : (up : Bool) {x y : A} → object x ≡ true → object y ≡ true → cond up (lt x y) (lt y x) ≡ true
      → ((z : A) → object z ≡ true → cond up (lt x z) (lt z x) ≡ true → cond up (lt z y) (lt y z) ≡ true → ⊥) → Beside up l x y
  beside_none true o o' less free = after (none_between o o' less free)
  beside_none false o o' less free = back (none_between o' o less (λ z p h k. free z p k h))

pub edge_first : {A : Type 0} {l : List A} {x : A} → Edge false l x → First l x
edge_first (earliest h) = h

pub edge_last : {A : Type 0} {l : List A} {x : A} → Edge true l x → Last l x
edge_last (latest h) = h
