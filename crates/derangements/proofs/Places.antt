-- Which keys the derangements of n places have; their edges and neighbours in the listing, by the key; the first and the last of them.
-- Assumes nothing.
use mathlib.Core.Path.{◌≡◌, refl, sym, ap, ap₂, subst}
use mathlib.Core.Bool.{Bool, true, false, cond, not}
use mathlib.Core.List.{List, [], ◌∷◌, flat_map}
use Prim.Native.Nat.{ℕ, zero, suc, ◌+◌, ◌-◌, ◌*◌, ◌≤◌, ◌<◌}
use native.Mathlib.Decide.{dec_lt}
use native.Mathlib.Omega.{arith}
use lib.Dec.{ltb, eqb}
use lib.ListN.{length}
use borrow.Author.Tests.{eqb-true, ltb-true, ltb-false, ne_eqb}
use Rattle.basics.specs.Sums.{range}
use Rattle.basics.proofs.Ranges.{in_range}
use Rattle.listings.specs.Bytes.{Bytes}
use Rattle.listings.specs.Choices.{by_choice}
use Rattle.listings.specs.Directions.{Beside, after, before, Edge, latest, earliest}
use Rattle.listings.specs.Places.{Follows, First}
use Rattle.listings.proofs.ChoicePlaces.{edge_choice, beside-inside, beside_seam}
use Rattle.listings.proofs.PlaceRules.{at_member, at_range, last-range, follows_range}
use Rattle.derangements.specs.Objects.{is_derangement}
use Rattle.derangements.specs.Listing.{join, derangements}
use Rattle.derangements.specs.Inner.Keys.{left_of, low_key, high_key}
use Rattle.derangements.specs.Inner.Moves.{goes, key_beside}
use Rattle.derangements.proofs.Theorem.{left_size, left, left_is, left_in_cycle, left_in_pair, one_place, lists}

pub left_of_lem : (m key : ℕ) → left_of (suc (suc m)) key ≡ left_size m key
unfolding left_of
left_of_lem m key = ap₂ (λ (a b : ℕ). cond (ltb key (suc (suc m))) a b) (omega arith) (omega arith)

-- the lowest and the highest key

pub low-is : (m : ℕ) → low_key (suc (suc (suc m))) ≡ 1
unfolding low_key
low-is m = rw (ne_eqb (suc (suc (suc m))) 2 (λ e. omega arith))

pub high_is : (m : ℕ) → high_key (suc (suc (suc (suc m)))) ≡ 2 * suc (suc (suc m))
unfolding high_key
high_is m = rw (ne_eqb (suc (suc (suc (suc m)))) 3 (λ e. omega arith)) (ap (λ (k : ℕ). 2 * k) (omega arith))

pub record Possible (m key : ℕ) : Type 0 where
  pub low : low_key (suc (suc m)) ≤ key
  pub high : key ≤ high_key (suc (suc m))

pub possible : (m key : ℕ) (x : Bytes) → 1 ≤ key → key ≤ 2 * suc m → is_derangement (left_size m key) x ≡ true → Possible m key
unfolding low_key high_key
possible zero key x from upto o = elim (dec_lt key 2) [ yes h ↦ absurd (one_place x (subst (λ k. is_derangement k x ≡ true) (left_in_cycle 0 key h) o)) | no h ↦ record { low = omega arith; high = omega arith } ]
possible (suc zero) key x from upto o = elim (dec_lt key 3) [ yes h ↦ record { low = from; high = omega arith } | no h ↦ absurd (one_place x (subst (λ k. is_derangement k x ≡ true) (left_in_pair 1 key (omega arith)) o)) ]
possible (suc (suc m)) key x from upto o = record { low = omega (arith, low-is (suc m), from); high = omega (arith, high_is m, upto) }

pub record Leaves (m key : ℕ) : Type 0 where
  pub from : 1 ≤ key
  pub upto : key ≤ 2 * suc m
  pub some : left_size m key ≡ 1 → ⊥

pub leaves : (m key : ℕ) → Possible m key → Leaves m key
unfolding low_key high_key
leaves zero key p = record { from = omega (arith, p.low); upto = p.high; some = λ e. omega (arith, e, left_in_pair 0 key p.low) }
leaves (suc zero) key p = record { from = p.low; upto = omega (arith, p.high); some = λ e. omega (arith, e, left_in_cycle 1 key (omega (arith, p.high))) }
leaves (suc (suc m)) key p = record {
  from = omega (arith, p.low, low-is (suc m));
  upto = omega (arith, p.high, high_is m);
  some = λ e. elim (dec_lt key (suc (suc (suc (suc m))))) [ yes h ↦ omega (arith, e, left_in_cycle (suc (suc m)) key h) | no h ↦ omega (arith, e, left_in_pair (suc (suc m)) key (omega arith)) ];
}

-- the listing over these keys alone

abbrev keys_of : ℕ → List ℕ
keys_of n = range (low_key n) (suc (high_key n) - low_key n)

over_possible : (m : ℕ) → derangements (suc (suc m)) ≡ by_choice (keys_of (suc (suc m))) (left m) (join (suc (suc m)))
unfolding derangements range low_key high_key flat_map
over_possible zero = refl
over_possible (suc zero) = refl
over_possible (suc (suc m)) =
    let n : ℕ = suc (suc (suc (suc m))) in
    let size : 2 * suc (suc (suc m)) ≡ suc (high_key n) - low_key n = omega (arith, low-is (suc m), high_is m) in
    ap₂ (λ a k. by_choice (range a k) (left (suc (suc m))) (join n)) (sym (low-is (suc m))) size

edge_key : (up : Bool) (m key : ℕ) → Possible m key → goes up (suc (suc m)) key ≡ false → Edge up (keys_of (suc (suc m))) key
unfolding goes
edge_key true m key p e = let h = ltb-false key (high_key (suc (suc m))) e in latest (last-range (low_key (suc (suc m))) (suc (high_key (suc (suc m))) - low_key (suc (suc m))) key (omega (arith, p.low, p.high, h)) p.low)
edge_key false m key p e =
    let h = ltb-false (low_key (suc (suc m))) key e in
    let k : ℕ = suc (high_key (suc (suc m))) - low_key (suc (suc m)) in
    let e : low_key (suc (suc m)) + 0 ≡ key = omega (arith, p.low, h) in
    earliest (subst (λ j. First (range (low_key (suc (suc m))) k) j) e (at_range (low_key (suc (suc m))) k 0 (omega (arith, p.low, p.high))))

-- in either direction, with n = m + 2 places

module _ {up : Bool} (m key : ℕ) {x : Bytes} where
  pub edge_joined : Possible m key → goes up (suc (suc m)) key ≡ false → Edge up (derangements (left_size m key)) x → Edge up (derangements (suc (suc m))) (join (suc (suc m)) key x)
  edge_joined p e h = rw (over_possible m) (edge_choice (left m) (join (suc (suc m))) (edge_key up m key p e) (rw (left_is m key) h))

  pub inside-joined : {y : Bytes} → 1 ≤ key → key ≤ 2 * suc m → Beside up (derangements (left_size m key)) x y → Beside up (derangements (suc (suc m))) (join (suc (suc m)) key x) (join (suc (suc m)) key y)
  unfolding derangements
  inside-joined from upto h = beside-inside (left m) (join (suc (suc m))) (in_range 1 (2 * suc m) from (omega arith)) (rw (left_is m key) h)

-- the key beside one that can go
pub goes_to_lem : (up : Bool) (m key : ℕ) → Possible m key → goes up (suc (suc m)) key ≡ true → Possible m (key_beside up key)
unfolding goes
goes_to_lem true m key p e = record { low = omega (arith, p.low); high = omega (arith, ltb-true key (high_key (suc (suc m))) e) }
goes_to_lem false m key p e = record { low = omega (arith, ltb-true (low_key (suc (suc m))) key e); high = omega (arith, p.high) }

beside_key : (up : Bool) (m key : ℕ) → Leaves m key → Leaves m (key_beside up key) → 0 < key → Beside up (range 1 (2 * suc m)) key (key_beside up key)
beside_key true m key a b some = let e : suc key ≡ key + 1 = omega arith in after (subst (Follows (range 1 (2 * suc m)) key) e (follows_range 1 (2 * suc m) key a.from (omega (arith, b.upto))))
beside_key false m key a b some = let e : suc (key - 1) ≡ key = omega arith in before (subst (Follows (range 1 (2 * suc m)) (key - 1)) e (follows_range 1 (2 * suc m) (key - 1) b.from (omega (arith, a.upto))))

pub seam_joined : {up : Bool} (m key : ℕ) {x y : Bytes} → Possible m key → goes up (suc (suc m)) key ≡ true → Edge up (derangements (left_size m key)) x → Edge (not up) (derangements (left_size m (key_beside up key))) y
    → Beside up (derangements (suc (suc m))) (join (suc (suc m)) key x) (join (suc (suc m)) (key_beside up key) y)
unfolding derangements
seam_joined {up} m key p e h k =
    let a = leaves m key p in
    beside_seam (left m) (join (suc (suc m))) (beside_key up m key a (leaves m (key_beside up key) (goes_to_lem up m key p e)) a.from) (rw (left_is m key) h) (rw (left_is m (key_beside up key)) k)

-- an object at an edge
pub edge_object : {up : Bool} (n : ℕ) {x : Bytes} → Edge up (derangements n) x → is_derangement n x ≡ true
edge_object n {x} (latest l) = (lists n).only x (at_member (derangements n) l.place l.here)
edge_object n {x} (earliest f) = (lists n).only x (at_member (derangements n) 0 f)

-- and beside another
pub beside-object : {up : Bool} (n : ℕ) {x y : Bytes} → Beside up (derangements n) x y → is_derangement n y ≡ true
beside-object n {y} (after f) = (lists n).only y (at_member (derangements n) (suc f.place) f.there)
beside-object n {y} (before f) = (lists n).only y (at_member (derangements n) f.place f.here)

pub empty_edge : (up : Bool) → Edge up (derangements 0) []
unfolding derangements
empty_edge true = latest record { place = 0; here = refl; final = refl }
empty_edge false = earliest refl

-- of no place, a step stays
pub stays_empty : (up : Bool) (x : Bytes) → true ≡ eqb (length x) 0 → (x ≡ x) × Edge up (derangements (length x)) x
stays_empty up [] e = (refl, empty_edge up)
stays_empty up (b ∷ x) e = absurd (omega (arith, eqb-true (length (b ∷ x)) 0 (sym e)))
