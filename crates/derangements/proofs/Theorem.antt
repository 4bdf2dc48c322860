-- The list of the derangements of n places is their listing, and has as many as the counting rule says: by the key and what is left, for two places and more.
-- Assumes nothing.
use mathlib.Core.Path.{◌≡◌, refl, sym, ◌∙◌, ap, ap₂, subst, subst₂}
use mathlib.Core.Logic.{◌⊎◌, inl, inr, ⊎_elim}
use mathlib.Core.Bool.{Bool, true, false, cond, false≢true, ◌&&◌, ◌||◌}
use mathlib.Core.List.{List, [], ◌∷◌}
use Prim.Native.Nat.{ℕ, zero, suc, ◌+◌, ◌-◌, ◌*◌, ◌≤◌, ◌<◌}
use native.Mathlib.Nat.{zero-mul, suc-mul, mul-add}
use native.Mathlib.Decide.{dec_lt}
use native.Mathlib.Omega.{arith}
use lib.Dec.{ltb, eqb}
use lib.ListN.{length}
use borrow.Author.Tests.{ltb-true, eqb-true, eq-eqb, lt-ltb, le-ltb}
use Rattle.basics.specs.Sums.{range, sum_over}
use Rattle.basics.proofs.Bools.{and-true, and_makes, or_cases, or_left, or_right, true_or_false}
use Rattle.basics.proofs.Ranges.{sum_over-append, range-add, between, in_range}
use Rattle.numbers.specs.Numbers.{derangements_of}
use Rattle.listings.specs.Bytes.{Bytes}
use Rattle.listings.specs.Listings.{StrictTotal, Listing}
use Rattle.listings.proofs.AscendingRules.{ascending-range}
use Rattle.listings.proofs.ChoiceRules.{none_rule, one_rule, Taken, choice_rule, counted_choice}
use Rattle.listings.proofs.OrderFacts.{trichotomy}
use Rattle.derangements.specs.Cycles.{image, paired, cut, unpair}
use Rattle.derangements.specs.Objects.{is_derangement, key_of, derangement_before}
use Rattle.derangements.specs.Listing.{splice, pair, join, derangements}
use Rattle.derangements.proofs.Images.{Among, Deranged, deranged, derangement}
use Rattle.derangements.proofs.Facts.{splice_deranged, splice_unpaired, splice_key, cut-splice, cut_among, cut_deranged, splice_cut, pair_deranged, pair-paired, pair_key, unpair-pair, unpair_among, unpair_deranged, pair-unpair}

pub long : (n : ℕ) (x : Bytes) → is_derangement n x ≡ true → length x ≡ n
long n x o = (deranged n x o).long

-- with n = m + 2 places: how many are left with a key, and which derangements

abbrev pub left_size : ℕ → ℕ → ℕ
left_size m key = cond (ltb key (suc (suc m))) (suc m) m

abbrev pub left : ℕ → ℕ → List Bytes
left m key = cond (ltb key (suc (suc m))) (derangements (suc m)) (derangements m)

pub left_in_cycle : (m key : ℕ) → key < suc (suc m) → left_size m key ≡ suc m
left_in_cycle m key h = rw (lt-ltb key (suc (suc m)) h)

pub left_in_pair : (m key : ℕ) → suc (suc m) ≤ key → left_size m key ≡ m
left_in_pair m key h = rw (le-ltb key (suc (suc m)) h)

pub left_is : (m key : ℕ) → left m key ≡ derangements (left_size m key)
left_is m key = ⊎_elim (λ e. rw e) (λ e. rw e) (true_or_false (ltb key (suc (suc m))))

-- a key and what is left with it

pub join_cycle : (m key : ℕ) (x : Bytes) → key < suc (suc m) → join (suc (suc m)) key x ≡ splice (suc (suc m)) key x
unfolding join
join_cycle m key x h = rw (lt-ltb key (suc (suc m)) h)

pub join-pair : (m key : ℕ) (x : Bytes) → suc (suc m) ≤ key → join (suc (suc m)) key x ≡ pair (suc (suc m)) (key - suc m) x
unfolding join
join-pair m key x h = rw (le-ltb key (suc (suc m)) h) (ap (λ c. pair (suc (suc m)) c x) (omega arith))

-- what derangement_before asks of two with the same key
abbrev tied : ℕ → Bytes → Bytes → Bool
tied m y z = cond (paired (suc (suc m)) y) (derangement_before m (unpair (suc (suc m)) y) (unpair (suc (suc m)) z)) (derangement_before (suc m) (cut (suc (suc m)) y) (cut (suc (suc m)) z))

record Joined (m key : ℕ) (x y : Bytes) : Type 0 where
  object : is_derangement (suc (suc m)) y ≡ true
  key_is : key_of (suc (suc m)) y ≡ key
  ties : (x' y' : Bytes) → is_derangement (left_size m key) x' ≡ true → y' ≡ join (suc (suc m)) key x' → tied m y y' ≡ derangement_before (left_size m key) x x'

module _ (m key : ℕ) (x : Bytes) (from : 1 ≤ key) (o : is_derangement (left_size m key) x ≡ true) where
  abbrev n : ℕ
  n = suc (suc m)

  by_cycle : key < n → Joined m key x (splice n key x)
  by_cycle h =
      let size = left_in_cycle m key h in
      let a : Among (suc m) key = omega arith in
      let d = deranged (suc m) x (subst (λ k. is_derangement k x ≡ true) size o) in
      record {
        object = derangement n (splice n key x) (splice_deranged m key x a d);
        key_is = splice_key m key x a d;
        ties = λ x' y' o' e.
            let d' = deranged (suc m) x' (subst (λ k. is_derangement k x' ≡ true) size o') in
            rw (e, join_cycle m key x' h, size, splice_unpaired m key x a d, cut-splice m key x a d, cut-splice m key x' a d');
      }

  by_pair : n ≤ key → key ≤ 2 * suc m → Joined m key x (pair n (key - suc m) x)
  by_pair h upto =
      let size = left_in_pair m key h in
      let c : ℕ = key - suc m in
      let a : Among (suc m) c = omega arith in
      let d = deranged m x (subst (λ k. is_derangement k x ≡ true) size o) in
      record {
        object = derangement n (pair n c x) (pair_deranged m c x a d);
        key_is = pair_key m c x a d ∙ omega arith;
        ties = λ x' y' o' e.
            let d' = deranged m x' (subst (λ k. is_derangement k x' ≡ true) size o') in
            rw (e, join-pair m key x' h, size, pair-paired m c x a d, unpair-pair m c x a d, unpair-pair m c x' a d');
      }

  joined : key ≤ 2 * suc m → Joined m key x (join n key x)
  joined upto = elim (dec_lt key n) [ yes h ↦ rw (join_cycle m key x h) (by_cycle h) | no h ↦ rw (join-pair m key x (omega arith)) (by_pair (omega arith) upto) ]

  pub join-object : key ≤ 2 * suc m → is_derangement n (join n key x) ≡ true
  join-object upto = (joined upto).object

-- the order of two, by their keys and what is left

module _ (m k l : ℕ) (x y : Bytes) (fk : 1 ≤ k) (uk : k ≤ 2 * suc m) (fl : 1 ≤ l) (ul : l ≤ 2 * suc m) (ox : is_derangement (left_size m k) x ≡ true) (oy : is_derangement (left_size m l) y ≡ true) where
  abbrev n₂ : ℕ
  n₂ = suc (suc m)

  before-is : derangement_before n₂ (join n₂ k x) (join n₂ l y) ≡ (ltb k l || (eqb k l && tied m (join n₂ k x) (join n₂ l y)))
  unfolding derangement_before
  before-is = ap₂ (λ a b. ltb a b || (eqb a b && tied m (join n₂ k x) (join n₂ l y))) (joined m k x fk ox uk).key_is (joined m l y fl oy ul).key_is

  before_less : k < l → derangement_before n₂ (join n₂ k x) (join n₂ l y) ≡ true
  before_less h = before-is ∙ or_left _ (lt-ltb k l h)

  same_tied : k ≡ l → tied m (join n₂ k x) (join n₂ l y) ≡ derangement_before (left_size m k) x y
  same_tied e = (joined m k x fk ox uk).ties y (join n₂ l y) (subst (λ j. is_derangement (left_size m j) y ≡ true) (sym e) oy) (ap (λ j. join n₂ j y) (sym e))

  before_tie : k ≡ l → derangement_before (left_size m k) x y ≡ true → derangement_before n₂ (join n₂ k x) (join n₂ l y) ≡ true
  before_tie e h = before-is ∙ or_right (ltb k l) (and_makes (eq-eqb k l e) (same_tied e ∙ h))

  before-cases : derangement_before n₂ (join n₂ k x) (join n₂ l y) ≡ true → (k < l) ⊎ ((k ≡ l) × (derangement_before (left_size m k) x y ≡ true))
  before-cases h =
      ⊎_elim (λ e. inl (ltb-true k l e))
      (λ e. let (q, t) = and-true (eqb k l) (tied m (join n₂ k x) (join n₂ l y)) e in let r = eqb-true k l q in inr (r, sym (same_tied r) ∙ t))
      (or_cases (ltb k l) (eqb k l && tied m (join n₂ k x) (join n₂ l y)) (sym before-is ∙ h))

-- every derangement of two places and more is made so
pub record Apart (m : ℕ) (y : Bytes) : Type 0 where
  pub key : ℕ
  pub from : 1 ≤ key
  pub upto : key ≤ 2 * suc m
  pub rest : Bytes
  pub object : is_derangement (left_size m key) rest ≡ true
  pub whole : join (suc (suc m)) key rest ≡ y

pub apart : (m : ℕ) (y : Bytes) → is_derangement (suc (suc m)) y ≡ true → Apart m y
apart m y o = ⊎_elim pairs cycles (true_or_false (paired (suc (suc m)) y))
  where
    d : Deranged (suc (suc m)) y
    d = deranged (suc (suc m)) y o

    c : ℕ
    c = image y (suc (suc m))

    cycles : paired (suc (suc m)) y ≡ false → Apart m y
    cycles e =
        let a = cut_among m y d e in
        let h : c < suc (suc m) = omega (arith, a) in
        record { key = c; from = a.from; upto = omega (arith, a); rest = cut (suc (suc m)) y; object = rw (left_in_cycle m c h) (derangement (suc m) (cut (suc (suc m)) y) (cut_deranged m y d e)); whole = join_cycle m c (cut (suc (suc m)) y) h ∙ splice_cut m y d e }

    pairs : paired (suc (suc m)) y ≡ true → Apart m y
    pairs e =
        let a = unpair_among m y d e in
        let h : suc (suc m) ≤ suc m + c = omega (arith, a) in
        record { key = suc m + c; from = omega arith; upto = omega (arith, a); rest = unpair (suc (suc m)) y; object = rw (left_in_pair m (suc m + c) h) (derangement m (unpair (suc (suc m)) y) (unpair_deranged m y d e)); whole = join-pair m (suc m + c) (unpair (suc (suc m)) y) h ∙ ap (λ k. pair (suc (suc m)) k (unpair (suc (suc m)) y)) (omega arith) ∙ pair-unpair m y d e }

-- of no place there is the empty string, and of one place nothing

empty_object : is_derangement 0 [] ≡ true
empty_object = derangement 0 [] (record {
  long = refl;
  by = record { values = λ i a. absurd (omega (arith, a)); moves = λ i a. absurd (omega (arith, a)); once = λ i j a. absurd (omega (arith, a)); onto = λ v a. absurd (omega (arith, a)) };
})

pub none_left : (x : Bytes) → is_derangement 0 x ≡ true → x ≡ []
none_left [] o = refl
none_left (b ∷ x) o = absurd (omega (arith, long 0 (b ∷ x) o))

pub one_place : (x : Bytes) → is_derangement 1 x ≡ true → ⊥
one_place x o = let d = deranged 1 x o in let v = d.by.values 1 (omega arith) in d.by.moves 1 (omega arith) (omega (arith, v))

pub two-places : (n : ℕ) (x : Bytes) → is_derangement n x ≡ true → false ≡ eqb n 0 → 2 ≤ n
two-places zero x o some = absurd (false≢true some)
two-places (suc zero) x o some = absurd (one_place x o)
two-places (suc (suc m)) x o some = omega arith

-- the order

module _ (m : ℕ) (parts : (k : ℕ) → StrictTotal (is_derangement (left_size m k)) (derangement_before (left_size m k))) where
  abbrev N : ℕ
  N = suc (suc m)

  module _ {x y : Bytes} (s : Apart m x) (t : Apart m y) where
    cases : derangement_before N x y ≡ true → (s.key < t.key) ⊎ ((s.key ≡ t.key) × (derangement_before (left_size m s.key) s.rest t.rest ≡ true))
    cases h = before-cases m s.key t.key s.rest t.rest s.from s.upto t.from t.upto s.object t.object (subst₂ (λ v w. derangement_before N v w ≡ true) (sym s.whole) (sym t.whole) h)

    less : s.key < t.key → derangement_before N x y ≡ true
    less h = subst₂ (λ v w. derangement_before N v w ≡ true) s.whole t.whole (before_less m s.key t.key s.rest t.rest s.from s.upto t.from t.upto s.object t.object h)

    tie : s.key ≡ t.key → derangement_before (left_size m s.key) s.rest t.rest ≡ true → derangement_before N x y ≡ true
    tie e h = subst₂ (λ v w. derangement_before N v w ≡ true) s.whole t.whole (before_tie m s.key t.key s.rest t.rest s.from s.upto t.from t.upto s.object t.object e h)

    -- what is left of y, among what is left with x's key
    moved : s.key ≡ t.key → is_derangement (left_size m s.key) t.rest ≡ true
    moved e = subst (λ k. is_derangement (left_size m k) t.rest ≡ true) (sym e) t.object

  total : {x y : Bytes} (s : Apart m x) (t : Apart m y) → (derangement_before N x y ≡ true) ⊎ ((x ≡ y) ⊎ (derangement_before N y x ≡ true))
  total {x} {y} s t = ⊎_elim (λ h. inl (less s t h)) (⊎_elim same (λ h. inr (inr (less t s h)))) (trichotomy s.key t.key)
    where
      same : s.key ≡ t.key → (derangement_before N x y ≡ true) ⊎ ((x ≡ y) ⊎ (derangement_before N y x ≡ true))
      same e =
          ⊎_elim (λ h. inl (tie s t e h))
          (⊎_elim (λ q. inr (inl (sym s.whole ∙ ap₂ (join N) e q ∙ t.whole))) (λ h. inr (inr (tie t s (sym e) (subst (λ k. derangement_before (left_size m k) t.rest s.rest ≡ true) e h)))))
          ((parts s.key).total s.rest t.rest s.object (moved s t e))

  transitive : {x y z : Bytes} (s : Apart m x) (t : Apart m y) (u : Apart m z) → derangement_before N x y ≡ true → derangement_before N y z ≡ true → derangement_before N x z ≡ true
  transitive {x} {z} s t u h h' = ⊎_elim (λ l. ⊎_elim (λ l'. less s u (omega arith)) (λ (e, _). less s u (omega arith)) (cases t u h')) (λ (e, b). ⊎_elim (λ l'. less s u (omega arith)) (both e b) (cases t u h')) (cases s t h)
    where
      both : s.key ≡ t.key → derangement_before (left_size m s.key) s.rest t.rest ≡ true → (t.key ≡ u.key) × (derangement_before (left_size m t.key) t.rest u.rest ≡ true) → derangement_before N x z ≡ true
      both e b (e', b') = tie s u (e ∙ e') ((parts s.key).transitive s.rest t.rest u.rest s.object (moved s t e) (moved s u (e ∙ e')) b (subst (λ k. derangement_before (left_size m k) t.rest u.rest ≡ true) (sym e) b'))

  ordered : StrictTotal (is_derangement N) (derangement_before N)
  ordered = record {
    irreflexive = λ x o h. let s = apart m x o in ⊎_elim (λ l. omega arith) (λ (_, b). (parts s.key).irreflexive s.rest s.object b) (cases s s h);
    transitive = λ x y z o p q. transitive (apart m x o) (apart m y p) (apart m z q);
    total = λ x y o p. total (apart m x o) (apart m y p);
  }

by_size : (P : ℕ → Type 0) (m : ℕ) → P (suc m) → P m → (key : ℕ) → P (left_size m key)
by_size P m p q key = ⊎_elim (λ e. rw e p) (λ e. rw e q) (true_or_false (ltb key (suc (suc m))))

pub strict : (n : ℕ) → StrictTotal (is_derangement n) (derangement_before n)
unfolding derangement_before
strict zero = record { irreflexive = λ x o h. false≢true h; transitive = λ x y z o p q h. absurd (false≢true h); total = λ x y o p. inr (inl (none_left x o ∙ sym (none_left y p))) }
strict (suc zero) = record { irreflexive = λ x o h. false≢true h; transitive = λ x y z o p q h. absurd (false≢true h); total = λ x y o p. absurd (one_place x o) }
strict (suc (suc m)) = ordered m (by_size (λ k. StrictTotal (is_derangement k) (derangement_before k)) m (strict (suc m)) (strict m))

-- the listing

off : (m : ℕ) (y : Bytes) → is_derangement (suc (suc m)) y ≡ true → Taken (range 1 (2 * suc m)) (join (suc (suc m))) (λ key. is_derangement (left_size m key)) y
off m y o = let t = apart m y o in record { choice = t.key; listed = in_range 1 (2 * suc m) t.from (omega (arith, t.upto)); left = t.rest; object = t.object; whole = t.whole }

pub lists : (n : ℕ) → Listing (is_derangement n) (derangement_before n) (derangements n)
unfolding derangements
lists zero = one_rule (strict 0) [] empty_object none_left
lists (suc zero) = none_rule (strict 1) one_place
lists (suc (suc m)) =
    choice_rule (left m) (join (suc (suc m)))
    (record {
      object_of = λ key. is_derangement (left_size m key);
      lt_of = λ key. derangement_before (left_size m key);
      ltc = ltb;
      order = strict (suc (suc m));
      rising = ascending-range 1 (2 * suc m);
      parts = λ key i. rw (left_is m key) (by_size (λ k. Listing (is_derangement k) (derangement_before k) (derangements k)) m (lists (suc m)) (lists m) key);
      off = off m;
      on = λ key x i o. let b = between 1 (2 * suc m) i in join-object m key x b.from o (omega (arith, b));
      less = λ k l x y i j h o p. let b = between 1 (2 * suc m) i in let d = between 1 (2 * suc m) j in before_less m k l x y b.from (omega (arith, b)) d.from (omega (arith, d)) o p (ltb-true k l h);
      tie = λ k x y i o p. let b = between 1 (2 * suc m) i in before_tie m k k x y b.from (omega (arith, b)) b.from (omega (arith, b)) o p refl;
    })

-- as many as the counting rule says

sum_same : (a k v : ℕ) {g : ℕ → ℕ} → ((x : ℕ) → a ≤ x → x < a + k → g x ≡ v) → sum_over (range a k) g ≡ k * v
unfolding sum_over range
sum_same a zero v h = sym (zero-mul v)
sum_same a (suc k) v h = ap₂ (λ (s t : ℕ). s + t) (h a (omega arith) (omega arith)) (sum_same (suc a) k v (λ x l u. h x (omega arith) (omega arith))) ∙ rw suc-mul (omega arith)

-- over the keys that leave n - 1 places, and q of those that leave n - 2

pub over_cycles : (m p : ℕ) → p ≤ suc m → sum_over (range 1 p) (λ key. derangements_of (left_size m key)) ≡ p * derangements_of (suc m)
over_cycles m p h = sum_same 1 p (derangements_of (suc m)) (λ key l u. ap derangements_of (left_in_cycle m key (omega arith)))

pub over_pairs : (m q : ℕ) → sum_over (range 1 (suc m + q)) (λ key. derangements_of (left_size m key)) ≡ suc m * derangements_of (suc m) + q * derangements_of m
over_pairs m q =
    ap (λ l. sum_over l (λ key. derangements_of (left_size m key))) (range-add 1 (suc m) q)
    ∙ sum_over-append (range 1 (suc m)) (range (1 + suc m) q) (λ key. derangements_of (left_size m key))
    ∙ ap₂ (λ (s t : ℕ). s + t) (over_cycles m (suc m) (omega arith)) (sum_same (1 + suc m) q (derangements_of m) (λ key l u. ap derangements_of (left_in_pair m key (omega arith))))

pub counted : (n : ℕ) → length (derangements n) ≡ derangements_of n
unfolding derangements derangements_of
counted zero = refl
counted (suc zero) = refl
counted (suc (suc m)) =
    counted_choice (range 1 (2 * suc m)) (left m) (join (suc (suc m))) (λ key i. ap length (left_is m key) ∙ by_size (λ k. length (derangements k) ≡ derangements_of k) m (counted (suc m)) (counted m) key)
    ∙ ap (λ k. sum_over (range 1 k) (λ key. derangements_of (left_size m key))) (omega arith)
    ∙ over_pairs m (suc m)
    ∙ sym (mul-add (suc m) (derangements_of (suc m)) (derangements_of m))

pub left-counted : (m key : ℕ) → length (left m key) ≡ derangements_of (left_size m key)
left-counted m key = ap length (left_is m key) ∙ counted (left_size m key)
