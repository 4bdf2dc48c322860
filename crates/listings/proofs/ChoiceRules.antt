-- A listing by choices has every object, only objects, and ascends, if the choices ascend and each part is a listing: Loehr's sum rule over
-- the choices with his bijection rule in each of them. His product rule is the case of one part for all choices. Assumes nothing.
use mathlib.Core.Path.{◌≡◌, sym, ◌∙◌, subst, subst₂}
use mathlib.Core.Bool.{Bool, true}
use mathlib.Core.List.Memᴰ
use mathlib.Core.List.{List, [], ◌∷◌, Memᴰ}
use Prim.Native.Nat.{ℕ}
use lib.ListN.{length, length-map}
use Rattle.basics.specs.Sums.{sum_over}
use Rattle.basics.proofs.Ranges.{sum_over_cong}
use Rattle.listings.specs.Choices.{by_choice}
use Rattle.listings.specs.Listings.{Ascending, none, more, StrictTotal, Listing}
use Rattle.listings.proofs.AscendingRules.{ascending-flat_map, ascending-map}
use Rattle.listings.proofs.Members.{flat_map_in, flat_map_of, length-flat_map}

-- where there is nothing to choose: no object, or one

module _ {A : Type 0} {object : A → Bool} {lt : A → A → Bool} (order : StrictTotal object lt) where
  pub none_rule : ((x : A) → object x ≡ true → ⊥) → Listing object lt []
  none_rule absent = record { order = order; every = λ x o. absurd (absent x o); only = λ x m. absurd (Memᴰ.not-nil m); ascending = none }

  pub one_rule : (x : A) → object x ≡ true → ((y : A) → object y ≡ true → y ≡ x) → Listing object lt (x ∷ [])
  one_rule x o one = record {
    order = order;
    every = λ y p. Memᴰ.head (one y p);
    only = λ y m. subst (λ z. object z ≡ true) (sym (Memᴰ.eq_of_singleton m)) o;
    ascending = more (λ y m. absurd (Memᴰ.not-nil m)) none;
  }

-- an object taken apart: the choice, and what is left without it
pub record Taken {A B C : Type 0} (cs : List C) (put : C → A → B) (object_of : C → A → Bool) (y : B) : Type 0 where
  pub choice : C
  pub listed : Memᴰ choice cs
  pub left : A
  pub object : object_of choice left ≡ true
  pub whole : put choice left ≡ y

-- what a kind shows of its choices
pub record Chosen {A B C : Type 0} (object : B → Bool) (lt : B → B → Bool) (cs : List C) (part : C → List A) (put : C → A → B) : Type 1 where
  -- the objects that are left after a choice, and their order
  pub object_of : C → A → Bool
  pub lt_of : C → A → A → Bool
  -- the order of the choices
  pub ltc : C → C → Bool
  pub order : StrictTotal object lt
  pub rising : Ascending ltc cs
  pub parts : (c : C) → Memᴰ c cs → Listing (object_of c) (lt_of c) (part c)
  pub off : (y : B) → object y ≡ true → Taken cs put object_of y
  pub on : (c : C) (x : A) → Memᴰ c cs → object_of c x ≡ true → object (put c x) ≡ true
  -- an earlier choice comes first, and with the same choice what is left decides
  pub less : (c d : C) (x y : A) → Memᴰ c cs → Memᴰ d cs → ltc c d ≡ true → object_of c x ≡ true → object_of d y ≡ true → lt (put c x) (put d y) ≡ true
  pub tie : (c : C) (x y : A) → Memᴰ c cs → object_of c x ≡ true → object_of c y ≡ true → lt_of c x y ≡ true → lt (put c x) (put c y) ≡ true

module _ {A B C : Type 0} {object : B → Bool} {lt : B → B → Bool} {cs : List C} (part : C → List A) (put : C → A → B) where
  pub choice_rule : Chosen object lt cs part put → Listing object lt (by_choice cs part put)
  choice_rule k = record {
    order = k.order;
    every = λ y o. let t = k.off y o in subst (λ z. Memᴰ z (by_choice cs part put)) t.whole (flat_map_in _ t.listed (Memᴰ.map (put t.choice) ((k.parts t.choice t.listed).every t.left t.object)));
    only = λ y m.
        let (c, j, in-part) = flat_map_of _ cs m in
        let (x, i, e) = Memᴰ.of_map (put c) (part c) in-part in
        subst (λ z. object z ≡ true) e (k.on c x j ((k.parts c j).only x i));
    ascending = ascending-flat_map _ k.rising
        (λ c j. ascending-map (put c) (λ x y p q. k.tie c x y j ((k.parts c j).only x p) ((k.parts c j).only y q)) (k.parts c j).ascending)
        (λ c d i j h x y p q.
        let (v, pv, ev) = Memᴰ.of_map (put c) (part c) p in
        let (w, qw, ew) = Memᴰ.of_map (put d) (part d) q in
        subst₂ (λ s t. lt s t ≡ true) ev ew (k.less c d v w i j h ((k.parts c i).only v pv) ((k.parts d j).only w qw)));
  }

-- as many as the parts have together
pub counted_choice : {A B : Type 0} (cs : List ℕ) (part : ℕ → List A) (put : ℕ → A → B) {g : ℕ → ℕ} → ((c : ℕ) → Memᴰ c cs → length (part c) ≡ g c) → length (by_choice cs part put) ≡ sum_over cs g
counted_choice cs part put counted = length-flat_map _ cs ∙ sum_over_cong cs (λ c m. length-map (part c) (put c) ∙ counted c m)
