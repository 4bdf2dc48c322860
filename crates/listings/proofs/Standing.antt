-- Where the entries of a listing stand: each at one place only, with as many before it as the place says.
-- Assumes nothing.
use mathlib.Core.Path.{◌≡◌, refl, sym, ap, ◌∙◌}
use mathlib.Core.Logic.{⊎_elim}
use mathlib.Core.Bool.{Bool, true, false, cond}
use mathlib.Core.Option.{Option, none, some, map}
use mathlib.Core.List.Memᴰ
use mathlib.Core.List.{List, [], ◌∷◌, Memᴰ}
use Prim.Native.Nat.{ℕ, zero, suc, ◌≤◌, ◌<◌}
use native.Mathlib.Omega.{arith}
use lib.ListN.{length, get_or, get_elem?}
use Rattle.listings.specs.Bytes.{Bytes, same}
use Rattle.listings.specs.Listings.{Listing}
use Rattle.listings.specs.Places.{count_before}
use Rattle.listings.specs.Calls.{place_of}
use Rattle.listings.proofs.SameBytes.{same-eq, same_ne}
use Rattle.basics.proofs.Bools.{fails}
use Rattle.listings.proofs.PlaceRules.{at_member}
use Rattle.listings.proofs.Ranks.{place-is_rank}

-- reading a list at a place

module _ {A : Type 0} where
  pub get_d_default : (l : List A) (p : ℕ) (d e : A) → p < length l → get_or l p d ≡ get_or l p e
  get_d_default [] p d e h = absurd (omega arith)
  get_d_default (x ∷ l) zero d e h = refl
  get_d_default (x ∷ l) (suc p) d e h = get_d_default l p d e (omega arith)

  pub get_elem_some : (l : List A) (p : ℕ) (d : A) → p < length l → get_elem? l p ≡ some (get_or l p d)
  get_elem_some [] p d h = absurd (omega arith)
  get_elem_some (x ∷ l) zero d h = refl
  get_elem_some (x ∷ l) (suc p) d h = get_elem_some l p d (omega arith)

  pub get_elem_none : (l : List A) (p : ℕ) → length l ≤ p → get_elem? l p ≡ none
  get_elem_none [] p h = refl
  get_elem_none (x ∷ l) zero h = absurd (omega arith)
  get_elem_none (x ∷ l) (suc p) h = get_elem_none l p (omega arith)

-- what `place_of` tells

pub record Found (l : List Bytes) (x : Bytes) (p : ℕ) : Type 0 where
  pub inside : p < length l
  pub there : (d : Bytes) → get_or l p d ≡ x

abbrev pub Tells : List Bytes → Bytes → Option ℕ → Type 0
Tells l x none = Memᴰ x l → ⊥
Tells l x (some p) = Found l x p

pub place-tells : (l : List Bytes) (x : Bytes) → Tells l x (place_of l x)
unfolding place_of
place-tells [] x = Memᴰ.not-nil
place-tells (y ∷ l) x = step (same y x) refl (place_of l x) (place-tells l x)
  where
    step : (b : Bool) → same y x ≡ b → (o : Option ℕ) → Tells l x o → Tells (y ∷ l) x (cond b (some 0) (map suc o))
    step true e o later = record { inside = omega arith; there = λ d. same-eq y x e }
    step false e none later = λ m. ⊎_elim (λ (q : x ≡ y). same_ne y x e (sym q)) later (Memᴰ.cases_cons m)
    step false e (some p) later = record { inside = omega arith; there = later.there }

module _ {object : Bytes → Bool} {lt : Bytes → Bytes → Bool} {l : List Bytes} (lists : Listing object lt l) where
  pub object_at : (p : ℕ) (d : Bytes) → p < length l → object (get_or l p d) ≡ true
  object_at p d h = lists.only (get_or l p d) (at_member l p (get_elem_some l p d h))

  pub not-object : (x : Bytes) → (Memᴰ x l → ⊥) → object x ≡ false
  not-object x absent = fails (object x) (λ o. absent (lists.every x o))

  pub rank_at_lem : (p : ℕ) (d : Bytes) → p < length l → count_before lt (get_or l p d) l ≡ p
  rank_at_lem p d h = place-is_rank lists p (get_elem_some l p d h)

  -- a place that an entry is found at is its rank
  pub found_rank : {x : Bytes} {p : ℕ} → Found l x p → count_before lt x l ≡ p
  found_rank {x} {p} f = ap (λ (y : Bytes). count_before lt y l) (sym (f.there x)) ∙ rank_at_lem p x f.inside

  -- the place of the entry at place p is p
  pub place_at : (p : ℕ) (d : Bytes) → p < length l → place_of l (get_or l p d) ≡ some p
  place_at p d h = step (place_of l (get_or l p d)) (place-tells l (get_or l p d))
    where
      step : (o : Option ℕ) → Tells l (get_or l p d) o → o ≡ some p
      step none absent = absurd (absent (at_member l p (get_elem_some l p d h)))
      step (some q) f = ap {B = Option ℕ} some (sym (found_rank f) ∙ rank_at_lem p d h)

  -- an object stands at its rank
  pub stands_at_rank : (x : Bytes) → object x ≡ true → Found l x (count_before lt x l)
  stands_at_rank x o = step (place_of l x) (place-tells l x)
    where
      step : (m : Option ℕ) → Tells l x m → Found l x (count_before lt x l)
      step none absent = absurd (absent (lists.every x o))
      step (some p) f = rw (found_rank f) f
