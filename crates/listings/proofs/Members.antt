-- What is in a list that goes through a list of choices, and how long it is.
-- Assumes nothing.
use mathlib.Core.Path.{◌≡◌, refl, subst}
use mathlib.Core.Logic.{◌⊎◌, inl, inr}
use mathlib.Core.List.Memᴰ
use mathlib.Core.List.{List, [], ◌∷◌, flat_map, Memᴰ}
use Prim.Native.Nat.{ℕ}
use lib.ListN.{length, length-append}
use Rattle.basics.specs.Sums.{sum_over}

pub flat_map_in : {A C : Type 0} (g : C → List A) {x : A} {c : C} {cs : List C} → Memᴰ c cs → Memᴰ x (g c) → Memᴰ x (flat_map g cs)
unfolding flat_map
flat_map_in g {x} (Memᴰ.head e) m = Memᴰ.append_left _ (subst (λ d. Memᴰ x (g d)) e m)
flat_map_in g (Memᴰ.tail {x = d} k) m = Memᴰ.append_right (g d) (flat_map_in g k m)

pub flat_map_of : {A C : Type 0} (g : C → List A) {x : A} (cs : List C) → Memᴰ x (flat_map g cs) → (c : C) × Memᴰ c cs × Memᴰ x (g c)
unfolding flat_map
flat_map_of g [] m = absurd (Memᴰ.not-nil m)
flat_map_of {C} g {x} (c ∷ cs) m = step (flat_map_of g cs) (Memᴰ.append_cases (g c) m)
  where
    step : (Memᴰ x (flat_map g cs) → (d : C) × Memᴰ d cs × Memᴰ x (g d)) → Memᴰ x (g c) ⊎ Memᴰ x (flat_map g cs) → (d : C) × Memᴰ d (c ∷ cs) × Memᴰ x (g d)
    step later (inl k) = (c, Memᴰ.head refl, k)
    step later (inr k) = let r = later k in (r.0, Memᴰ.tail r.1, r.2)

pub flat_map_cong : {A C : Type 0} (cs : List C) {f g : C → List A} → ((c : C) → Memᴰ c cs → f c ≡ g c) → flat_map f cs ≡ flat_map g cs
unfolding flat_map
flat_map_cong [] same = refl
flat_map_cong (c ∷ cs) same = rw (same c (Memᴰ.head refl), flat_map_cong cs (λ d m. same d (Memᴰ.tail m)))

pub length-flat_map : {A : Type 0} (g : ℕ → List A) (cs : List ℕ) → length (flat_map g cs) ≡ sum_over cs (λ c. length (g c))
unfolding flat_map sum_over
length-flat_map g [] = refl
length-flat_map g (c ∷ cs) = rw (length-append, length-flat_map g cs)
