-- There is only one listing of some objects in an order.
-- Assumes nothing.
use mathlib.Core.Path.{◌≡◌, refl, sym, ap₂, subst}
use mathlib.Core.Logic.{◌⊎◌, inl, inr}
use mathlib.Core.Bool.{Bool, true}
use mathlib.Core.List.Memᴰ
use mathlib.Core.List.{List, [], ◌∷◌, Memᴰ}
use Rattle.listings.specs.Listings.{Ascending, more, StrictTotal, Listing}

module _ {A : Type 0} {object : A → Bool} {lt : A → A → Bool} where
  -- no two objects come each before the other
  pub asymmetric : StrictTotal object lt → (x y : A) → object x ≡ true → object y ≡ true → lt x y ≡ true → lt y x ≡ true → ⊥
  asymmetric order x y o p h k = order.irreflexive x o (order.transitive x y x o p o h k)

  -- two ascending lists of the same objects
  agree : StrictTotal object lt → (l m : List A) → Ascending lt l → Ascending lt m → ((x : A) → Memᴰ x l → object x ≡ true)
      → ((x : A) → Memᴰ x l → Memᴰ x m) → ((x : A) → Memᴰ x m → Memᴰ x l) → l ≡ m
  agree order [] [] up up' objects into back = refl
  agree order [] (y ∷ m) up up' objects into back = absurd (Memᴰ.not-nil (back y (Memᴰ.head refl)))
  agree order (x ∷ l) [] up up' objects into back = absurd (Memᴰ.not-nil (into x (Memᴰ.head refl)))
  agree order (x ∷ l) (y ∷ m) (more before rest) (more before' rest') objects into back =
      ap₂ {C = List A} (λ z k. z ∷ k) heads (agree order l m rest rest' (λ z k. objects z (Memᴰ.tail k)) tail_into tail_back)
    where
      x_object : object x ≡ true
      x_object = objects x (Memᴰ.head refl)

      y_object : object y ≡ true
      y_object = objects y (back y (Memᴰ.head refl))

      compare : (x ≡ y) ⊎ Memᴰ x m → (y ≡ x) ⊎ Memᴰ y l → x ≡ y
      compare (inl e) k = e
      compare (inr j) (inl e) = sym e
      compare (inr j) (inr k) = absurd (asymmetric order x y x_object y_object (before y k) (before' x j))

      heads : x ≡ y
      heads = compare (Memᴰ.cases_cons (into x (Memᴰ.head refl))) (Memᴰ.cases_cons (back y (Memᴰ.head refl)))

      -- what is in one tail is not the common head, so it is in the other tail
      pass : {a z : A} {n : List A} → object a ≡ true → lt a z ≡ true → (z ≡ a) ⊎ Memᴰ z n → Memᴰ z n
      pass {a} o h (inl e) = absurd (order.irreflexive a o (subst (λ w. lt a w ≡ true) e h))
      pass o h (inr k) = k

      tail_into : (z : A) → Memᴰ z l → Memᴰ z m
      tail_into z k = pass y_object (subst (λ w. lt w z ≡ true) heads (before z k)) (Memᴰ.cases_cons (into z (Memᴰ.tail k)))

      tail_back : (z : A) → Memᴰ z m → Memᴰ z l
      tail_back z k = pass x_object (subst (λ w. lt w z ≡ true) (sym heads) (before' z k)) (Memᴰ.cases_cons (back z (Memᴰ.tail k)))

  pub unique : {l m : List A} → Listing object lt l → Listing object lt m → l ≡ m
  unique {l} {m} p q = agree p.order l m p.ascending q.ascending p.only (λ x k. q.every x (p.only x k)) (λ x k. p.every x (q.only x k))
