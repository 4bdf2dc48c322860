-- A list joined from ascending parts, or mapped from an ascending list, ascends; turned round it ascends in the order turned round.
-- Assumes nothing.
use mathlib.Core.Path.{◌≡◌, refl, subst}
use mathlib.Core.Logic.{⊎_elim}
use mathlib.Core.Bool.{Bool, true}
use mathlib.Core.List.Memᴰ
use mathlib.Core.List.{List, ◌++◌, map, flat_map, reverse, reverse_aux, Memᴰ}
use Prim.Native.Nat.{ℕ, zero, suc}
use lib.Dec.{ltb}
use borrow.Author.Tests.{lt-ltb}
use Rattle.basics.specs.Sums.{range}
use Rattle.basics.proofs.Ranges.{between}
use Rattle.listings.specs.Listings.{Ascending, none, more}
use Rattle.listings.proofs.Members.{flat_map_of}

pub ascending-append : {A : Type 0} {lt : A → A → Bool} {l m : List A} → Ascending lt l → Ascending lt m → ((x y : A) → Memᴰ x l → Memᴰ y m → lt x y ≡ true) → Ascending lt (l ++ m)
ascending-append none later apart = later
ascending-append (more {x} {l} before first) later apart =
    more (λ y k. ⊎_elim (before y) (apart x y (Memᴰ.head refl)) (Memᴰ.append_cases l k))
    (ascending-append first later (λ z y k. apart z y (Memᴰ.tail k)))

pub ascending-map : {A B : Type 0} {lt : A → A → Bool} {lt' : B → B → Bool} {l : List A} (f : A → B) → ((x y : A) → Memᴰ x l → Memᴰ y l → lt x y ≡ true → lt' (f x) (f y) ≡ true) → Ascending lt l → Ascending lt' (map f l)
ascending-map f keeps none = none
ascending-map {lt'} f keeps (more {x} {l} before rest) =
    more (λ y k. let r = Memᴰ.of_map f l k in subst (λ z. lt' (f x) z ≡ true) r.2 (keeps x r.0 (Memᴰ.head refl) (Memᴰ.tail r.1) (before r.0 r.1)))
    (ascending-map f (λ y z k m. keeps y z (Memᴰ.tail k) (Memᴰ.tail m)) rest)

pub ascending-flat_map : {A C : Type 0} {ltc : C → C → Bool} {lt : A → A → Bool} {cs : List C} (g : C → List A) → Ascending ltc cs → ((c : C) → Memᴰ c cs → Ascending lt (g c))
    → ((c d : C) → Memᴰ c cs → Memᴰ d cs → ltc c d ≡ true → (x y : A) → Memᴰ x (g c) → Memᴰ y (g d) → lt x y ≡ true)
    → Ascending lt (flat_map g cs)
unfolding flat_map
ascending-flat_map g none each apart = none
ascending-flat_map g (more {x = c} {l = cs} before rest) each apart =
    ascending-append (each c (Memᴰ.head refl))
    (ascending-flat_map g rest (λ d k. each d (Memᴰ.tail k)) (λ d e k m. apart d e (Memᴰ.tail k) (Memᴰ.tail m)))
    (λ x y k m. let r = flat_map_of g cs m in apart c r.0 (Memᴰ.head refl) (Memᴰ.tail r.1) (before r.0 r.1) x y k r.2)

pub ascending-range : (a m : ℕ) → Ascending ltb (range a m)
unfolding range
ascending-range a zero = none
ascending-range a (suc m) = more (λ y k. lt-ltb a y (between (suc a) m k).from) (ascending-range (suc a) m)

ascending_onto : {A : Type 0} {lt : A → A → Bool} {l m : List A} → Ascending lt l → Ascending (λ a b. lt b a) m → ((a b : A) → Memᴰ a l → Memᴰ b m → lt b a ≡ true)
    → Ascending (λ a b. lt b a) (reverse_aux l m)
ascending_onto none later apart = later
ascending_onto {lt} (more {x} before rest) later apart =
    ascending_onto rest (more (λ b k. apart x b (Memᴰ.head refl) k) later)
    (λ a b k m. ⊎_elim (λ (e : b ≡ x). rw e (before a k)) (apart a b (Memᴰ.tail k)) (Memᴰ.cases_cons m))

pub ascending-reverse : {A : Type 0} {lt : A → A → Bool} {l : List A} → Ascending lt l → Ascending (λ a b. lt b a) (reverse l)
ascending-reverse up = ascending_onto up none (λ a b k m. absurd (Memᴰ.not-nil m))
