-- The entries of a listing that pass a test are the listing of the objects that pass it.
-- Assumes nothing.
use mathlib.Core.Path.{◌≡◌, refl, sym, subst}
use mathlib.Core.Logic.{◌⊎◌, inl, inr, ⊎_elim}
use mathlib.Core.Bool.{Bool, true, false, cond, false≢true}
use mathlib.Core.List.Memᴰ
use mathlib.Core.List.{List, [], ◌∷◌, Memᴰ}
use Rattle.listings.specs.Listings.{Ascending, none, more, Listing}
use Rattle.listings.specs.Kept.{kept}

module _ {A : Type 0} where
  -- an entry that is kept or isn't

  in_either : (t : Bool) (x : A) {y : A} {l : List A} → Memᴰ y (cond t (x ∷ l) l) → ((y ≡ x) × (t ≡ true)) ⊎ Memᴰ y l
  in_either true x m = ⊎_elim (λ e. inl (e, refl)) inr (Memᴰ.cases_cons m)
  in_either false x m = inr m

  in_head : (t : Bool) (x : A) (l : List A) → t ≡ true → Memᴰ x (cond t (x ∷ l) l)
  in_head true x l e = Memᴰ.head refl
  in_head false x l e = absurd (false≢true e)

  in_tail : (t : Bool) (x : A) {y : A} {l : List A} → Memᴰ y l → Memᴰ y (cond t (x ∷ l) l)
  in_tail true x m = Memᴰ.tail m
  in_tail false x m = m

  up_either : {lt : A → A → Bool} (t : Bool) (x : A) {l : List A} → ((y : A) → Memᴰ y l → lt x y ≡ true) → Ascending lt l → Ascending lt (cond t (x ∷ l) l)
  up_either true x before up = more before up
  up_either false x before up = up

module _ {A : Type 0} (t : A → Bool) where
  kept_of : (l : List A) {y : A} → Memᴰ y (kept t l) → Memᴰ y l × (t y ≡ true)
  unfolding kept
  kept_of [] m = absurd (Memᴰ.not-nil m)
  kept_of (x ∷ l) m =
      ⊎_elim (λ (e, h). (Memᴰ.head e, subst (λ z. t z ≡ true) (sym e) h)) (λ k. let r = kept_of l k in (Memᴰ.tail r.0, r.1)) (in_either (t x) x m)

  kept_in : {y : A} {l : List A} → Memᴰ y l → t y ≡ true → Memᴰ y (kept t l)
  unfolding kept
  kept_in {l = []} m h = elim m [ ]
  kept_in {l = x ∷ l} (Memᴰ.head e) h = subst (λ z. Memᴰ z (kept t (x ∷ l))) (sym e) (in_head (t x) x (kept t l) (subst (λ z. t z ≡ true) e h))
  kept_in {l = x ∷ l} (Memᴰ.tail m) h = in_tail (t x) x (kept_in m h)

  kept-up : {lt : A → A → Bool} {l : List A} → Ascending lt l → Ascending lt (kept t l)
  unfolding kept
  kept-up none = none
  kept-up (more {x} {l} before rest) = up_either (t x) x (λ y m. before y (kept_of l m).0) (kept-up rest)

  -- the narrower objects are those that pass; the order is unchanged
  pub kept_rule : {object narrower : A → Bool} {lt : A → A → Bool} {l : List A} → ((x : A) → narrower x ≡ true → (object x ≡ true) × (t x ≡ true)) → ((x : A) → object x ≡ true → t x ≡ true → narrower x ≡ true)
      → Listing object lt l → Listing narrower lt (kept t l)
  kept_rule {l = l} passes makes p =
      record {
        order =
            record {
              irreflexive = λ x o. p.order.irreflexive x (passes x o).0;
              transitive = λ x y z o o' o''. p.order.transitive x y z (passes x o).0 (passes y o').0 (passes z o'').0;
              total = λ x y o o'. p.order.total x y (passes x o).0 (passes y o').0;
            };
        every = λ x o. let both = passes x o in kept_in (p.every x both.0) both.1;
        only = λ x m. let r = kept_of l m in makes x (p.only x r.0) r.1;
        ascending = kept-up p.ascending;
      }
