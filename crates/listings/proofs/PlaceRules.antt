-- Where things stand in lists that are joined, mapped, gone through by choices or paired, and what follows what there.
-- Assumes nothing.
use mathlib.Core.Path.{◌≡◌, refl, sym, ◌∙◌, ap, subst}
use mathlib.Core.Option.{Option, some, some-injective, none-ne-some}
use mathlib.Core.List.{List, [], ◌∷◌, ◌++◌, map, flat_map, append-nil, Memᴰ}
use Prim.Native.Nat.{ℕ, zero, suc, ◌+◌, ◌-◌, ◌*◌, ◌≤◌, ◌<◌}
use native.Mathlib.Nat.{add-zero, zero-add, suc-add, add-suc, add_assoc, zero-mul, suc-mul, le_of_lt}
use native.Mathlib.Omega.{arith}
use lib.ListN.{length, take, length-append, length-map}
use lib.Seq.{length-take-le}
use Rattle.basics.specs.Sums.{range}
use Rattle.basics.proofs.Ranges.{length-range}
use Rattle.listings.specs.Places.{At, Follows, First, Last}

-- a place and what stands there

module _ {A : Type 0} where
  pub at_below : (l : List A) (r : ℕ) {x : A} → At l x r → r < length l
  at_below [] r {x} h = absurd (none-ne-some x h)
  at_below (a ∷ l) zero h = omega arith
  at_below (a ∷ l) (suc r) h = omega (arith, at_below l r h)

  pub at_member : (l : List A) (r : ℕ) {x : A} → At l x r → Memᴰ x l
  at_member [] r {x} h = absurd (none-ne-some x h)
  at_member (a ∷ l) zero {x} h = Memᴰ.head (sym (some-injective a x h))
  at_member (a ∷ l) (suc r) h = Memᴰ.tail (at_member l r h)

  pub member_at : {x : A} {l : List A} → Memᴰ x l → (r : ℕ) × At l x r
  member_at (Memᴰ.head e) = (0, ap {B = Option A} some (sym e))
  member_at (Memᴰ.tail m) = let (r, h) = member_at m in (suc r, h)

  pub at_exists : (l : List A) (r : ℕ) → r < length l → (x : A) × At l x r
  at_exists [] r h = absurd (omega arith)
  at_exists (a ∷ l) zero h = (a, refl)
  at_exists (a ∷ l) (suc r) h = at_exists l r (omega arith)

  pub at_unique_element : (l : List A) (r : ℕ) {x y : A} → At l x r → At l y r → x ≡ y
  at_unique_element l r {x} {y} h k = some-injective x y (sym h ∙ k)

  pub at_append_left : (l m : List A) (r : ℕ) {x : A} → At l x r → At (l ++ m) x r
  at_append_left [] m r {x} h = absurd (none-ne-some x h)
  at_append_left (a ∷ l) m zero h = h
  at_append_left (a ∷ l) m (suc r) h = at_append_left l m r h

  pub at_append_right : (l m : List A) (r : ℕ) {x : A} → At m x r → At (l ++ m) x (length l + r)
  at_append_right [] m r h = rw zero-add h
  at_append_right (a ∷ l) m r h = rw suc-add (at_append_right l m r h)

pub at_map : {A B : Type 0} (f : A → B) (l : List A) (r : ℕ) {x : A} → At l x r → At (map f l) (f x) r
at_map f [] r {x} h = absurd (none-ne-some x h)
at_map f (a ∷ l) zero h = cc
at_map f (a ∷ l) (suc r) h = at_map f l r h

-- what follows what, the first and the last

module _ {A : Type 0} where
  pub follows_left : {l : List A} {x y : A} (m : List A) → Follows l x y → Follows (l ++ m) x y
  follows_left {l} m s = record { place = s.place; here = at_append_left l m s.place s.here; there = at_append_left l m (suc s.place) s.there }

  pub follows_right : (l : List A) {m : List A} {x y : A} → Follows m x y → Follows (l ++ m) x y
  follows_right l {m} s =
      record { place = length l + s.place; here = at_append_right l m s.place s.here; there = rw (← add-suc) (at_append_right l m (suc s.place) s.there) }

  pub follows_seam : {l : List A} {x : A} (m : List A) {y : A} → Last l x → First m y → Follows (l ++ m) x y
  follows_seam {l} m {y} end start =
      record {
        place = end.place;
        here = at_append_left l m end.place end.here;
        there = subst (At (l ++ m) y) (omega (arith, end.final)) (at_append_right l m 0 start);
      }

  pub first-append : (l m : List A) {x : A} → First l x → First (l ++ m) x
  first-append l m h = at_append_left l m 0 h

  pub last-append : (l : List A) {m : List A} {x : A} → Last m x → Last (l ++ m) x
  last-append l {m} s =
      record { place = length l + s.place; here = at_append_right l m s.place s.here; final = rw length-append (omega (arith, s.final)) }

  pub last-append_empty : {l : List A} (m : List A) {x : A} → m ≡ [] → Last l x → Last (l ++ m) x
  last-append_empty m e h = rw (e, append-nil) h

module _ {A B : Type 0} (f : A → B) where
  pub follows_map : {l : List A} {x y : A} → Follows l x y → Follows (map f l) (f x) (f y)
  follows_map {l} s = record { place = s.place; here = at_map f l s.place s.here; there = at_map f l (suc s.place) s.there }

  pub first-map : (l : List A) {x : A} → First l x → First (map f l) (f x)
  first-map l h = at_map f l 0 h

  pub last-map : {l : List A} {x : A} → Last l x → Last (map f l) (f x)
  last-map {l} s = record { place = s.place; here = at_map f l s.place s.here; final = s.final ∙ sym (length-map l f) }

-- a list gone through by choices: g c holds what choice c gives

module _ {A C : Type 0} (g : C → List A) where
  pub at_flat_map : (cs : List C) (p r : ℕ) {c : C} {x : A} → At cs c p → At (g c) x r → At (flat_map g cs) x (length (flat_map g (take p cs)) + r)
  unfolding flat_map
  at_flat_map [] p r {c} h k = absurd (none-ne-some c h)
  at_flat_map (d ∷ cs) zero r {c} {x} h k = rw zero-add (at_append_left (g d) (flat_map g cs) r (rw (← some-injective d c h) at k))
  at_flat_map (d ∷ cs) (suc p) r h k = rw (length-append, add_assoc) (at_append_right (g d) (flat_map g cs) (length (flat_map g (take p cs)) + r) (at_flat_map cs p r h k))

  pub first-flat_map : (cs : List C) {c : C} {x : A} → First cs c → First (g c) x → First (flat_map g cs) x
  unfolding flat_map
  first-flat_map [] {c} h k = absurd (none-ne-some c h)
  first-flat_map (d ∷ cs) {c} h k = first-append (g d) (flat_map g cs) (rw (← some-injective d c h) at k)

  last-from : (cs : List C) (p : ℕ) {c : C} {x : A} → At cs c p → suc p ≡ length cs → Last (g c) x → Last (flat_map g cs) x
  unfolding flat_map
  last-from [] p h e k = absurd (omega arith)
  last-from (d ∷ []) zero {c} h e k = last-append_empty [] refl (rw (← some-injective d c h) at k)
  last-from (d ∷ d' ∷ cs) zero h e k = absurd (omega arith)
  last-from (d ∷ cs) (suc p) h e k = last-append (g d) (last-from cs p h (omega arith) k)

  pub last-flat_map : {cs : List C} {c : C} {x : A} → Last cs c → Last (g c) x → Last (flat_map g cs) x
  last-flat_map {cs} s k = last-from cs s.place s.here s.final k

  -- the next lemma, with `c` declared before `cs`, as its recursion needs
  inside_from : {c : C} {x y : A} {cs : List C} → Memᴰ c cs → Follows (g c) x y → Follows (flat_map g cs) x y
  unfolding flat_map
  inside_from (Memᴰ.head e) s = follows_left _ (rw e at s)
  inside_from (Memᴰ.tail {x = d} m) s = follows_right (g d) (inside_from m s)

  pub follows_flat_map_inside : {cs : List C} {c : C} {x y : A} → Memᴰ c cs → Follows (g c) x y → Follows (flat_map g cs) x y
  follows_flat_map_inside m s = inside_from m s

  seam_from : (cs : List C) (p : ℕ) {c d : C} {x y : A} → At cs c p → At cs d (suc p) → Last (g c) x → First (g d) y → Follows (flat_map g cs) x y
  unfolding flat_map
  seam_from [] p {c} h h' k k' = absurd (none-ne-some c h)
  seam_from (e ∷ cs) zero {c} h h' k k' = follows_seam (flat_map g cs) (rw (← some-injective e c h) at k) (first-flat_map cs h' k')
  seam_from (e ∷ cs) (suc p) h h' k k' = follows_right (g e) (seam_from cs p h h' k k')

  pub follows_flat_map_seam : {cs : List C} {c d : C} {x y : A} → Follows cs c d → Last (g c) x → First (g d) y → Follows (flat_map g cs) x y
  follows_flat_map_seam {cs} s k k' = seam_from cs s.place s.here s.there k k'

-- pairs: each of l with each of m

module _ {A B C : Type 0} (f : A → B → C) where
  pub length_pairs : (l : List A) (m : List B) → length (flat_map (λ a. map (f a) m) l) ≡ length l * length m
  unfolding flat_map
  length_pairs [] m = sym (zero-mul (length m))
  length_pairs (a ∷ l) m = rw (length-append, length-map, length_pairs l m, suc-mul) (omega arith)

  pub at_pairs : (l : List A) (m : List B) (p q : ℕ) {a : A} {b : B} → At l a p → At m b q → At (flat_map (λ a. map (f a) m) l) (f a b) (p * length m + q)
  at_pairs l m p q {a} h k =
      rw (length_pairs (take p l) m, length-take-le p l (le_of_lt (at_below l p h))) at (at_flat_map (λ a. map (f a) m) l p q h (at_map (f a) m q k))

-- the numbers of a range

pub at_range : (a m i : ℕ) → i < m → At (range a m) (a + i) i
unfolding range
at_range a zero i h = absurd (omega arith)
at_range a (suc m) zero h = rw add-zero
at_range a (suc m) (suc i) h = rw (add-suc, ← suc-add) (at_range (suc a) m i (omega arith))

pub at_range_from : (a m p : ℕ) → a ≤ p → p < a + m → At (range a m) p (p - a)
at_range_from a m p low high = subst (λ (q : ℕ). At (range a m) q (p - a)) (omega arith) (at_range a m (p - a) (omega arith))

pub last-range : (a m p : ℕ) → a + m ≡ suc p → a ≤ p → Last (range a m) p
last-range a m p e low = record { place = p - a; here = at_range_from a m p low (omega arith); final = omega (arith, length-range a m) }

pub follows_range : (a m p : ℕ) → a ≤ p → suc p < a + m → Follows (range a m) p (suc p)
follows_range a m p low high =
    record { place = p - a; here = at_range_from a m p low (omega arith); there = subst (At (range a m) (suc p)) (omega arith) (at_range_from a m (suc p) (omega arith) high) }
