-- What a step does, of n places: with the same key what is left moves; else the key moves, and what is left with it starts over; or nothing can.
-- Assumes nothing.
use mathlib.Core.Path.{◌≡◌, refl, sym, ◌∙◌, ap, subst}
use mathlib.Core.Bool.{Bool, true, false, cond, not}
use mathlib.Core.List.{◌++◌}
use Prim.Native.Nat.{ℕ, zero, suc, ◌-◌, ◌*◌, ◌≤◌, ◌<◌}
use native.Mathlib.Decide.{dec_lt}
use native.Mathlib.Omega.{arith}
use lib.Dec.{eqb}
use lib.ListN.{length, take, drop, take-append-drop}
use lib.Seq.{length-take-le, length_front, take_at}
use Rattle.std.proofs.Common.{Some, None}
use Rattle.listings.specs.Bytes.{Bytes}
use Rattle.listings.specs.Directions.{Beside, Edge}
use Rattle.derangements.specs.Objects.{is_derangement}
use Rattle.derangements.specs.Listing.{join, derangements}
use Rattle.derangements.specs.Inner.Keys.{left_of, Keyed, TakenApart}
use Rattle.derangements.specs.Inner.Moves.{goes, key_beside}
use Rattle.derangements.proofs.Theorem.{long, two-places, left_in_cycle, left_in_pair}
use Rattle.derangements.proofs.Places.{left_of_lem, Possible, possible, leaves, edge_joined, inside-joined, goes_to_lem, seam_joined, edge_object, beside-object}

pub left_below : (n key : ℕ) → 2 ≤ n → left_of n key < n
left_below zero key two = absurd (omega arith)
left_below (suc zero) key two = absurd (omega arith)
left_below (suc (suc m)) key two = elim (dec_lt key (suc (suc m))) [ yes h ↦ omega (arith, left_of_lem m key, left_in_cycle m key h) | no h ↦ omega (arith, left_of_lem m key, left_in_pair m key (omega arith)) ]

-- with m + 2 places, as the functions say it

module _ (m key : ℕ) (x : Bytes) (from : 1 ≤ key) (upto : key ≤ 2 * (suc (suc m) - 1)) (o : is_derangement (left_of (suc (suc m)) key) x ≡ true) where
  abbrev n : ℕ
  n = suc (suc m)

  can_be : Possible m key
  can_be = possible m key x from (omega arith) (subst (λ s. is_derangement s x ≡ true) (left_of_lem m key) o)

  edge_at : {up : Bool} → goes up n key ≡ false → Edge up (derangements (left_of n key)) x → Edge up (derangements n) (join n key x)
  edge_at {up} g h = edge_joined m key can_be g (subst (λ s. Edge up (derangements s) x) (left_of_lem m key) h)

  inside_at : {up : Bool} {y : Bytes} → Beside up (derangements (left_of n key)) x y → Beside up (derangements n) (join n key x) (join n key y)
  inside_at {up} {y} h = inside-joined m key from (omega arith) (subst (λ s. Beside up (derangements s) x y) (left_of_lem m key) h)

  seam_at : {up : Bool} {y : Bytes} → goes up n key ≡ true → Edge up (derangements (left_of n key)) x → Edge (not up) (derangements (left_of n (key_beside up key))) y → Beside up (derangements n) (join n key x) (join n (key_beside up key) y)
  seam_at {up} {y} g h k = seam_joined m key can_be g (subst (λ s. Edge up (derangements s) x) (left_of_lem m key) h) (subst (λ s. Edge (not up) (derangements s) y) (left_of_lem m (key_beside up key)) k)

  next_at : (up : Bool) → goes up n key ≡ true → (1 ≤ key_beside up key) × (key_beside up key ≤ 2 * (n - 1)) × (left_of n (key_beside up key) ≡ 1 → ⊥)
  next_at up g = let l = leaves m (key_beside up key) (goes_to_lem up m key can_be g) in (l.from, omega (arith, l.upto), λ e. l.some (sym (left_of_lem m (key_beside up key)) ∙ e))

-- with n places

pub record Turns (up : Bool) (n key : ℕ) (x : Bytes) : Type 0 where
  pub edge : goes up n key ≡ false → Edge up (derangements (left_of n key)) x → Edge up (derangements n) (join n key x)
  pub inside : (y : Bytes) → Beside up (derangements (left_of n key)) x y → Beside up (derangements n) (join n key x) (join n key y)
  pub seam : (y : Bytes) → goes up n key ≡ true → Edge up (derangements (left_of n key)) x → Edge (not up) (derangements (left_of n (key_beside up key))) y → Beside up (derangements n) (join n key x) (join n (key_beside up key) y)
  pub beyond : goes up n key ≡ true → (1 ≤ key_beside up key) × (key_beside up key ≤ 2 * (n - 1)) × (left_of n (key_beside up key) ≡ 1 → ⊥)

pub turns : (up : Bool) (n key : ℕ) (z : Bytes) → 2 ≤ n → Keyed n key z → Turns up n key (take (left_of n key) z)
turns up zero key z two k = absurd (omega arith)
turns up (suc zero) key z two k = absurd (omega arith)
turns up (suc (suc m)) key z two k =
    let x : Bytes = take (left_of (suc (suc m)) key) z in
    record { edge = edge_at m key x k.from k.upto k.object; inside = λ y. inside_at m key x k.from k.upto k.object; seam = λ y. seam_at m key x k.from k.upto k.object; beyond = next_at m key x k.from k.upto k.object up }

-- what a step makes where the object stands: y, a derangement left with the key, in front of the other places of z

pub record InFront (n key l : ℕ) (z y : Bytes) : Type 0 where
  pub size : length (y ++ drop l z) ≡ n
  pub keyed : Keyed (length (y ++ drop l z)) key (y ++ drop l z)
  pub joined : join (length (y ++ drop l z)) key (take (left_of (length (y ++ drop l z)) key) (y ++ drop l z)) ≡ join n key y

pub in_front : {n key l : ℕ} (z y : Bytes) → length z ≡ n → l ≤ n → l ≡ left_of n key → 1 ≤ key → key ≤ 2 * (n - 1) → is_derangement l y ≡ true → InFront n key l z y
in_front {n} {key} {l} z y size within left from upto object =
    let front : length y ≡ length (take l z) = long l y object ∙ sym (length-take-le l z (omega arith)) in
    let same : length (y ++ drop l z) ≡ n = length_front z y l front ∙ size in
    let first : take (left_of n key) (y ++ drop l z) ≡ y = rw (← left) (take_at y (drop l z) l (long l y object)) in
    record {
      size = same;
      keyed = rw same record { from = from; upto = upto; object = rw (first, ← left) object };
      joined = rw (same, first) refl;
    }

-- what `beside` answers

stuck_key : (b : Bool) (k : ℕ) → None ≡ cond b (Some k) None → b ≡ false
stuck_key true k e = cc
stuck_key false k e = refl

new_key : (b : Bool) (k moved : ℕ) → Some moved ≡ cond b (Some k) None → (b ≡ true) × (moved ≡ k)
new_key true k moved e = (refl, cc)
new_key false k moved e = cc

-- no key beyond: the whole stands at the edge
pub turned_back : {up : Bool} {n key : ℕ} {z : Bytes} → 2 ≤ n → Keyed n key z → None ≡ cond (goes up n key) (Some (key_beside up key)) None → Edge up (derangements (left_of n key)) (take (left_of n key) z) → Edge up (derangements n) (join n key (take (left_of n key) z))
turned_back {up} {n} {key} {z} two k e h = (turns up n key z two k).edge (stuck_key (goes up n key) (key_beside up key) e) h

-- else the key moves on, l places are left with it, and what is left starts over
pub record Turned (up : Bool) (key moved l : ℕ) (z : Bytes) : Type 0 where
  pub within : l ≤ length z
  pub size : l ≡ length (take l z)
  pub some : length (take l z) ≡ 1 → ⊥
  pub written : (y : Bytes) → Edge (not up) (derangements (length (take l z))) y → InFront (length z) moved l z y
  pub beside : (y : Bytes) → Edge up (derangements (left_of (length z) key)) (take (left_of (length z) key) z) → Edge (not up) (derangements (length (take l z))) y → Beside up (derangements (length z)) (join (length z) key (take (left_of (length z) key) z)) (join (length z) moved y)

pub turned : {up : Bool} {key moved l : ℕ} {z : Bytes} → 2 ≤ length z → Keyed (length z) key z → Some moved ≡ cond (goes up (length z) key) (Some (key_beside up key)) None → l ≡ left_of (length z) moved → Turned up key moved l z
turned {up} {key} {moved} {l} {z} two k e left =
    let here = turns up (length z) key z two k in
    let told = new_key (goes up (length z) key) (key_beside up key) moved e in
    let new = here.beyond told.0 in
    let within : l < length z = omega (arith, left, left_below (length z) moved two) in
    let size : length (take l z) ≡ l = length-take-le l z (omega arith) in
    let same : l ≡ left_of (length z) (key_beside up key) = left ∙ ap (left_of (length z)) told.1 in
    record {
      within = omega arith;
      size = sym size;
      some = λ one. new.2 (sym same ∙ sym size ∙ one);
      written = λ y h. in_front z y refl (omega arith) left (omega (arith, new.0, told.1)) (omega (arith, new.1, told.1)) (edge_object l (rw size at h));
      beside = λ y h g. rw told.1 (here.seam y told.0 h (rw (← same) (rw size at g)));
    }

-- x taken apart into a key and z, with l places left in front
pub record Rest (up : Bool) (key l : ℕ) (x z : Bytes) : Type 0 where
  pub within : l ≤ length z
  pub fewer : l < length x
  pub size : l ≡ length (take l z)
  pub object : is_derangement (length (take l z)) (take l z) ≡ true
  pub ended : (y : Bytes) → y ≡ take l z → Edge up (derangements (length (take l z))) (take l z) → Edge up (derangements (left_of (length (y ++ drop l z)) key)) (take (left_of (length (y ++ drop l z)) key) (y ++ drop l z))
  pub written : (y : Bytes) → Beside up (derangements (length (take l z))) (take l z) y → InFront (length x) key l z y
  pub beside : (y : Bytes) → Beside up (derangements (length (take l z))) (take l z) y → Beside up (derangements (length x)) x (join (length x) key y)

pub rest : (up : Bool) {key l : ℕ} {x z : Bytes} → is_derangement (length x) x ≡ true → false ≡ eqb (length x) 0 → length z ≡ length x → TakenApart (length x) x key z → l ≡ left_of (length z) key → Rest up key l x z
rest up {key} {l} {x} {z} object some same apart left =
    let two = two-places (length x) x object some in
    let k = apart.keyed in
    let is : l ≡ left_of (length x) key = left ∙ ap (λ n. left_of n key) same in
    let fewer : l < length x = omega (arith, is, left_below (length x) key two) in
    let size : length (take l z) ≡ l = length-take-le l z (omega arith) in
    record {
      within = omega arith;
      fewer = fewer;
      size = sym size;
      object = rw (size, is) k.object;
      ended = λ y e h. rw (e, take-append-drop l z, ← left) (rw size at h);
      written = λ y h. in_front z y same (omega arith) is k.from k.upto (beside-object l (rw size at h));
      beside = λ y h. subst (λ w. Beside up (derangements (length x)) w (join (length x) key y)) apart.whole ((turns up (length x) key z two k).inside y (rw (← is) (rw size at h)));
    }
