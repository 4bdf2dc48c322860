-- Loehr's sum and bijection rules as laws of listings.
-- Assumes nothing.
use mathlib.Core.Path.{◌≡◌, sym, ◌∙◌, ap, subst}
use mathlib.Core.Logic.{◌⊎◌, inl, inr}
use mathlib.Core.Bool.{Bool, true}
use mathlib.Core.List.Memᴰ
use mathlib.Core.List.{List, map, flat_map, Memᴰ}
use Rattle.listings.specs.Listings.{Ascending, StrictTotal, Listing}
use Rattle.listings.proofs.AscendingRules.{ascending-flat_map, ascending-map}
use Rattle.listings.proofs.Members.{flat_map_in, flat_map_of}

-- the sum rule for a list of choices: each object comes by some choice, and those of an earlier choice come first
pub sum_rule : {A C : Type 0} {object : A → Bool} {object_of : C → A → Bool} {ltc : C → C → Bool} {lt : A → A → Bool} {cs : List C} (g : C → List A)
    → StrictTotal object lt → Ascending ltc cs → ((c : C) → Memᴰ c cs → Listing (object_of c) lt (g c))
    → ((x : A) → object x ≡ true → (c : C) × Memᴰ c cs × (object_of c x ≡ true))
    → ((c : C) (x : A) → Memᴰ c cs → object_of c x ≡ true → object x ≡ true)
    → ((c d : C) → Memᴰ c cs → Memᴰ d cs → ltc c d ≡ true → (x y : A) → object_of c x ≡ true → object_of d y ≡ true → lt x y ≡ true)
    → Listing object lt (flat_map g cs)
sum_rule {cs} g order up each choice back apart = record {
  order = order;
  every = λ x o. let r = choice x o in flat_map_in g r.1 ((each r.0 r.1).every x r.2);
  only = λ x k. let r = flat_map_of g cs k in back r.0 x r.1 ((each r.0 r.1).only x r.2);
  ascending = ascending-flat_map g up (λ c k. (each c k).ascending)
      (λ c d k k' less x y j j'. apart c d k k' less x y ((each c k).only x j) ((each d k').only y j'));
}

-- the bijection rule: f keeps objects and order, and g goes back; that f is one-to-one follows, since it keeps the order
pub bijection_rule : {A B : Type 0} {object : A → Bool} {object' : B → Bool} {lt : A → A → Bool} {lt' : B → B → Bool} {l : List A} → Listing object lt l
    → (f : A → B) (g : B → A) → ((x : A) → object x ≡ true → object' (f x) ≡ true) → ((y : B) → object' y ≡ true → object (g y) ≡ true)
    → ((y : B) → object' y ≡ true → f (g y) ≡ y) → ((x y : A) → object x ≡ true → object y ≡ true → lt x y ≡ lt' (f x) (f y))
    → Listing object' lt' (map f l)
bijection_rule {A} {B} {object} {object'} {lt} {lt'} {l} p f g forth back onto keeps = record {
  order = record {
    irreflexive = λ x o less. p.order.irreflexive (g x) (back x o) (order x x o o ∙ less);
    transitive = λ x y z o o' o'' low high.
        sym (order x z o o'') ∙ p.order.transitive (g x) (g y) (g z) (back x o) (back y o') (back z o'') (order x y o o' ∙ low) (order y z o' o'' ∙ high);
    total = λ x y o o'. compare x y o o' (p.order.total (g x) (g y) (back x o) (back y o'));
  };
  every = λ y o. subst (λ z. Memᴰ z (map f l)) (onto y o) (Memᴰ.map f (p.every (g y) (back y o)));
  only = λ y k. let r = Memᴰ.of_map f l k in subst (λ z. object' z ≡ true) r.2 (forth r.0 (p.only r.0 r.1));
  ascending = ascending-map f (λ x y j k less. sym (keeps x y (p.only x j) (p.only y k)) ∙ less) p.ascending;
}
  where
    order : (x y : B) → object' x ≡ true → object' y ≡ true → lt (g x) (g y) ≡ lt' x y
    order x y o o' = rw (onto x o, onto y o') at (keeps (g x) (g y) (back x o) (back y o'))

    compare : (x y : B) → object' x ≡ true → object' y ≡ true → (lt (g x) (g y) ≡ true) ⊎ ((g x ≡ g y) ⊎ (lt (g y) (g x) ≡ true)) → (lt' x y ≡ true) ⊎ ((x ≡ y) ⊎ (lt' y x ≡ true))
    compare x y o o' (inl less) = inl (sym (order x y o o') ∙ less)
    compare x y o o' (inr (inl e)) = inr (inl (sym (onto x o) ∙ ap f e ∙ onto y o'))
    compare x y o o' (inr (inr more)) = inr (inr (sym (order y x o' o) ∙ more))
