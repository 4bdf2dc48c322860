-- Where a derangement stands: behind those with a smaller key, and among those with its key where the derangement left stands among its own. And the
-- derangement of a rank: its key by division, and what is left by the remainder. Assumes nothing.
use mathlib.Core.Path.{◌≡◌, refl, sym, ◌∙◌, ap, subst, subst₂}
use mathlib.Core.Bool.{true}
use mathlib.Core.List.{[], ◌∷◌}
use Prim.Native.Nat.{ℕ, zero, suc, ◌+◌, ◌-◌, ◌*◌, ◌/◌, ◌%◌, ◌≤◌, ◌<◌, ◌^◌}
use native.Mathlib.Nat.{mul-zero, mod-lt, div-lt_iff_lt-mul, div-add-mod'}
use native.Mathlib.Decide.{dec_lt}
use native.Mathlib.Omega.{arith}
use lib.ListN.{length, take}
use lib.Seq.{length-take-le}
use borrow.Author.Tests.{lt-ltb, le-ltb}
use Rattle.basics.specs.Sums.{range, sum_over}
use Rattle.basics.proofs.Ranges.{take_range}
use Rattle.numbers.specs.Numbers.{derangements_of}
use Rattle.numbers.proofs.Derangements.{derangement_zero, derangement_one, derangement_rule, derangement_grows}
use Rattle.listings.specs.Bytes.{Bytes}
use Rattle.listings.specs.Places.{At, count_before}
use Rattle.listings.proofs.ChoicePlaces.{at_choice}
use Rattle.listings.proofs.PlaceRules.{at_below, at_member, at_range_from}
use Rattle.listings.proofs.Ranks.{at_rank, rank_below}
use Rattle.derangements.specs.Objects.{is_derangement, derangement_before}
use Rattle.derangements.specs.Listing.{join, derangements}
use Rattle.derangements.specs.Inner.Keys.{left_of, TakenApart}
use Rattle.derangements.proofs.Theorem.{left_size, left, left_is, left_in_cycle, left_in_pair, left-counted, over_cycles, over_pairs, lists, counted}
use Rattle.derangements.proofs.Places.{left_of_lem}
use Rattle.derangements.proofs.Neighbours.{left_below, InFront, in_front}
use Rattle.derangement_ranks.specs.declared.keys.LeftCounts.{LeftCounts}
use Rattle.derangement_ranks.specs.Inner.Ranks.{having, earlier_by, Placed}

-- the order of the keys: those below n come first, and then those from n on

module _ (n key a b : ℕ) where
  pub earlier_cycles : key < n → earlier_by n key a b ≡ (key - 1) * a
  unfolding earlier_by
  earlier_cycles h = rw (lt-ltb key n h)

  pub earlier_pairs : n ≤ key → earlier_by n key a b ≡ (n - 1) * a + (key - n) * b
  unfolding earlier_by
  earlier_pairs h = rw (le-ltb key n h)

  having_cycle : key < n → having n key a b ≡ a
  unfolding having
  having_cycle h = rw (lt-ltb key n h)

  having-pair : n ≤ key → having n key a b ≡ b
  unfolding having
  having-pair h = rw (le-ltb key n h)

-- the key of a rank, by division

pub some_where_below : (k j r : ℕ) → r < k * j → 0 < j
some_where_below k zero r h = absurd (omega (arith, mul-zero k))
some_where_below k (suc j) r h = omega arith

module _ (n r a b : ℕ) where
  pub placed_cycle : r < (n - 1) * a → Placed n r a b (r / a + 1) (r % a)
  placed_cycle h =
      let some = some_where_below (n - 1) a r h in
      let q : r / a < n - 1 = (div-lt_iff_lt-mul some).1 h in
      let low : r / a + 1 < n = omega arith in
      let same : r / a + 1 - 1 ≡ r / a = omega arith in
      record {
        from = omega arith;
        upto = omega arith;
        whole = rw (earlier_cycles n (r / a + 1) a b low, same) (div-add-mod' r a);
        within = rw (having_cycle n (r / a + 1) a b low) (mod-lt r some);
      }

  pub placed_pair : (n - 1) * a ≤ r → r < (n - 1) * a + (n - 1) * b → Placed n r a b (n + (r - (n - 1) * a) / b) ((r - (n - 1) * a) % b)
  placed_pair low high =
      let s : ℕ = r - (n - 1) * a in
      let below : s < (n - 1) * b = omega arith in
      let some = some_where_below (n - 1) b s below in
      let q : s / b < n - 1 = (div-lt_iff_lt-mul some).1 below in
      let up : n ≤ n + s / b = omega arith in
      let same : n + s / b - n ≡ s / b = omega arith in
      record {
        from = omega arith;
        upto = omega arith;
        whole = rw (earlier_pairs n (n + s / b) a b up, same) (omega (arith, div-add-mod' s b));
        within = rw (having-pair n (n + s / b) a b up) (mod-lt s some);
      }

-- with m + 2 places

module _ (m key : ℕ) where
  abbrev N : ℕ
  N = suc (suc m)

  abbrev longer : ℕ
  longer = derangements_of (suc m)

  abbrev shorter : ℕ
  shorter = derangements_of m

  having-is : having N key longer shorter ≡ derangements_of (left_of N key)
  having-is = elim (dec_lt key N) [
    | yes h ↦ having_cycle N key longer shorter h ∙ rw (left_of_lem m key, left_in_cycle m key h)
    | no h ↦ having-pair N key longer shorter (omega arith) ∙ rw (left_of_lem m key, left_in_pair m key (omega arith))
  ]

  left_fewer : derangements_of (left_of N key) ≤ derangements_of N
  left_fewer = let grows = derangement_grows m in elim (dec_lt key N) [
    | yes h ↦ rw (left_of_lem m key, left_in_cycle m key h) grows.0
    | no h ↦ rw (left_of_lem m key, left_in_pair m key (omega arith)) grows.1
  ]

  smaller_keys : 1 ≤ key → sum_over (range 1 (key - 1)) (λ k. derangements_of (left_size m k)) ≡ earlier_by N key longer shorter
  smaller_keys from = elim (dec_lt key N) [
    | yes h ↦ over_cycles m (key - 1) (omega arith) ∙ sym (earlier_cycles N key longer shorter h)
    | no h ↦
        let all : key - 1 ≡ suc m + (key - N) = omega arith in
        let fewer : N - 1 ≡ suc m = omega arith in
        rw (all, earlier_pairs N key longer shorter (omega arith), fewer) (over_pairs m (key - N))
  ]

  -- behind those with a smaller key
  at_key : (r : ℕ) {x : Bytes} → 1 ≤ key → key ≤ 2 * (N - 1) → At (derangements (left_of N key)) x r → At (derangements N) (join N key x) (earlier_by N key longer shorter + r)
  unfolding derangements
  at_key r from upto h =
      rw (← smaller_keys from, ← take_range 1 (2 * suc m) (key - 1) (omega arith))
      (at_choice (range 1 (2 * suc m)) (left m) (join N) (left-counted m) (key - 1) r (at_range_from 1 (2 * suc m) key from (omega arith)) (rw (left_is m key, ← left_of_lem m key) h))

-- with n places, of which there are two or more: a derangements of n - 1 places, and b of n - 2

pub record Numbers (n a b : ℕ) : Type 0 where
  pub two : 2 ≤ n
  pub all : (n - 1) * a + (n - 1) * b ≡ derangements_of n
  with_key : (key : ℕ) → having n key a b ≡ derangements_of (left_of n key)
  fewer : (key : ℕ) → derangements_of (left_of n key) ≤ derangements_of n
  stands : (key r : ℕ) {x : Bytes} → 1 ≤ key → key ≤ 2 * (n - 1) → At (derangements (left_of n key)) x r → At (derangements n) (join n key x) (earlier_by n key a b + r)

numbers : (n : ℕ) → 2 ≤ n → Numbers n (derangements_of (n - 1)) (derangements_of (n - 2))
numbers zero two = absurd (omega arith)
numbers (suc zero) two = absurd (omega arith)
numbers (suc (suc m)) two =
    let fewer : suc m ≡ suc (suc m) - 1 = omega arith in
    let fewest : m ≡ suc (suc m) - 2 = omega arith in
    subst₂ (λ k l. Numbers (suc (suc m)) (derangements_of k) (derangements_of l)) fewer fewest record {
      two = two;
      all = rw (← fewer) (sym (derangement_rule m));
      with_key = having-is m;
      fewer = left_fewer m;
      stands = at_key m;
    }

pub counted_left : (c : LeftCounts) → Numbers c.n c.longer c.shorter
counted_left c = subst₂ (Numbers c.n) (sym c.longer_is) (sym c.shorter_is) (numbers c.n (omega (arith, c.bounds)))

-- the place of a rank that isn't below those with a key below n
pub in_pair : (c : LeftCounts) (r : ℕ) → (c.n - 1) * c.longer ≤ r → r < derangements_of c.n → (0 < c.shorter) × Placed c.n r c.longer c.shorter (c.n + (r - (c.n - 1) * c.longer) / c.shorter) ((r - (c.n - 1) * c.longer) % c.shorter)
in_pair c r low high =
    let below : r < (c.n - 1) * c.longer + (c.n - 1) * c.shorter = omega (arith, (counted_left c).all) in
    (some_where_below (c.n - 1) c.shorter (r - (c.n - 1) * c.longer) (omega arith), placed_pair c.n r c.longer c.shorter low below)

-- each number is no more than that of n places
pub both_fit : (n : ℕ) → 2 ≤ n → derangements_of n < 2 ^ 64 → (derangements_of (n - 1) < 2 ^ 64) × (derangements_of (n - 2) < 2 ^ 64)
both_fit zero two fits = absurd (omega arith)
both_fit (suc zero) two fits = absurd (omega arith)
both_fit (suc (suc m)) two fits =
    let grows = derangement_grows m in
    let fewer : suc (suc m) - 1 ≡ suc m = omega arith in
    let fewest : suc (suc m) - 2 ≡ m = omega arith in
    (rw fewer (omega arith), rw fewest (omega arith))

-- of one place there is none

pub two_where_some : (n r : ℕ) → (n ≡ 0 → ⊥) → r < derangements_of n → 2 ≤ n
two_where_some zero r some h = absurd (some refl)
two_where_some (suc zero) r some h = absurd (omega (arith, derangement_one))
two_where_some (suc (suc m)) r some h = omega arith

pub two_where_object : (n : ℕ) (x : Bytes) → (n ≡ 0 → ⊥) → is_derangement n x ≡ true → 2 ≤ n
two_where_object n x some o = two_where_some n (count_before (derangement_before n) x (derangements n)) some (omega (arith, rank_below (lists n) x o, counted n))

-- x taken apart into a key and z, with l places left in front

pub record Rest (n a b key l : ℕ) (x z : Bytes) : Type 0 where
  pub within : l ≤ length z
  pub size : l ≡ length (take l z)
  pub less : length (take l z) < length x
  pub object : is_derangement (length (take l z)) (take l z) ≡ true
  pub fewer : derangements_of (length (take l z)) ≤ derangements_of n
  pub below : earlier_by n key a b < derangements_of n
  pub under : (r : ℕ) → At (derangements (length (take l z))) (take l z) r → earlier_by n key a b + r < derangements_of n
  pub stands : (r : ℕ) → At (derangements (length (take l z))) (take l z) r → At (derangements (length x)) x (earlier_by n key a b + r)

taken : {n a b key l : ℕ} {x z : Bytes} → Numbers n a b → n ≡ length x → length z ≡ length x → TakenApart n x key z → l ≡ left_of n key → Rest n a b key l x z
taken {n} {a} {b} {key} {l} {x} {z} d long_x long_z t e =
    let below : l < n = rw e (left_below n key d.two) in
    let size : length (take l z) ≡ l = length-take-le l z (omega arith) in
    let object : is_derangement l (take l z) ≡ true = rw e t.keyed.object in
    let stands : (r : ℕ) → At (derangements l) (take l z) r → At (derangements n) x (earlier_by n key a b + r) = λ r h. rw (← t.whole) (d.stands key r t.keyed.from t.keyed.upto (rw e at h)) in
    let under : (r : ℕ) → At (derangements l) (take l z) r → earlier_by n key a b + r < derangements_of n = λ r h. omega (arith, at_below (derangements n) _ (stands r h), counted n) in
    record {
      within = omega arith;
      size = sym size;
      less = omega arith;
      object = rw size object;
      fewer = rw (size, e) (d.fewer key);
      below = omega (arith, under _ (at_rank (lists l) (take l z) object));
      under = rw size under;
      stands = rw (size, ← long_x) stands;
    }

pub rest : {key l : ℕ} {x z : Bytes} (c : LeftCounts) → c.n ≡ length x → length z ≡ length x → TakenApart (length x) x key z → l ≡ left_of (length x) key → Rest c.n c.longer c.shorter key l x z
rest c e long_z t left = taken (counted_left c) e long_z (rw e t) (rw e left)

-- the derangement of a rank has the key, and the one left has the rank s and l places

pub record Front (rank key s l : ℕ) (x : Bytes) : Type 0 where
  pub within : l ≤ length x
  pub size : l ≡ length (take l x)
  pub less : length (take l x) < length x
  pub fewer : derangements_of (length (take l x)) ≤ derangements_of (length x)
  pub below : s < derangements_of (length (take l x))
  pub written : (y : Bytes) → At (derangements (length (take l x))) y s → InFront (length x) key l x y
  pub stands : (y : Bytes) → At (derangements (length (take l x))) y s → At (derangements (length x)) (join (length x) key y) rank

placed : {a b rank key s l : ℕ} (x : Bytes) → Numbers (length x) a b → Placed (length x) rank a b key s → l ≡ left_of (length x) key → Front rank key s l x
placed {a} {b} {rank} {key} {s} {l} x d p e =
    let below : l < length x = rw e (left_below (length x) key d.two) in
    let size : length (take l x) ≡ l = length-take-le l x (omega arith) in
    record {
      within = omega arith;
      size = sym size;
      less = omega arith;
      fewer = rw (size, e) (d.fewer key);
      below = rw (size, e) (omega (arith, p.within, d.with_key key));
      written = λ y h. in_front x y refl (omega arith) e p.from p.upto ((lists l).only y (at_member (derangements l) s (rw size at h)));
      stands = λ y h. rw (← p.whole) (d.stands key s p.from p.upto (rw (size, e) at h));
    }

pub front : {rank key s l : ℕ} (x : Bytes) (c : LeftCounts) → c.n ≡ length x → Placed c.n rank c.longer c.shorter key s → l ≡ left_of (length x) key → Front rank key s l x
front x c e p is = placed x (subst (λ n. Numbers n c.longer c.shorter) e (counted_left c)) (rw e at p) is

-- no place

pub empty_at : (x : Bytes) → length x ≡ 0 → At (derangements (length x)) x 0
unfolding derangements
empty_at [] e = refl
empty_at (b ∷ x) e = absurd (omega arith)

pub only_empty : (x : Bytes) (r : ℕ) → length x ≡ 0 → r < derangements_of (length x) → At (derangements (length x)) x r
only_empty x r e h =
    let zeroth : r ≡ 0 = omega (arith, ap derangements_of e, derangement_zero) in
    rw zeroth (empty_at x e)
