-- The orders by the first place and by the last place at which two byte strings differ are strict total orders on strings of one length.
-- Assumes nothing.
use mathlib.Core.Path.{◌≡◌, refl, sym, ◌∙◌, ap₂}
use mathlib.Core.Logic.{◌⊎◌, inl, inr, ⊎_elim}
use mathlib.Core.Bool.{Bool, true, false, ◌&&◌, ◌||◌, false≢true, and-true as and-with-true, and-false, or-false}
use mathlib.Core.List.{[], ◌∷◌, ◌++◌}
use Prim.Native.Nat.{ℕ, ◌<◌}
use native.Mathlib.Decide.{dec_lt}
use native.Mathlib.Nat.{eq-or-lt_of_le}
use native.Mathlib.Omega.{arith}
use lib.Dec.{ltb, eqb}
use lib.ListN.{length}
use borrow.Author.Tests.{ltb-true, lt-ltb, eqb-true, eq-eqb}
use Rattle.listings.specs.Bytes.{Bytes, same}
use Rattle.listings.specs.Listings.{StrictTotal}
use Rattle.listings.specs.Orders.{lex_before, colex_by, colex_before}
use Rattle.basics.proofs.Bools.{and-true, and_makes, or_cases, or_left, or_right}
use Rattle.listings.proofs.SameBytes.{eq-same, same-eq, same-snoc}

-- two numbers are less, equal or greater
pub trichotomy : (a b : ℕ) → (a < b) ⊎ ((a ≡ b) ⊎ (b < a))
trichotomy a b = step (dec_lt a b)
  where
    equal_or_more : (b ≡ a) ⊎ (b < a) → (a < b) ⊎ ((a ≡ b) ⊎ (b < a))
    equal_or_more (inl e) = inr (inl (sym e))
    equal_or_more (inr h) = inr (inr h)

    step : Dec (a < b) → (a < b) ⊎ ((a ≡ b) ⊎ (b < a))
    step (yes h) = inl h
    step (no n) = equal_or_more (eq-or-lt_of_le (omega arith))

cons_equal : {a b : ℕ} {x y : Bytes} → a ≡ b → x ≡ y → a ∷ x ≡ b ∷ y
cons_equal p q = ap₂ {C = Bytes} (λ c z. c ∷ z) p q

-- by the first place that differs

pub lex_cases : (a b : ℕ) (x y : Bytes) → lex_before (a ∷ x) (b ∷ y) ≡ true → (a < b) ⊎ ((a ≡ b) × (lex_before x y ≡ true))
unfolding lex_before
lex_cases a b x y e = step (or_cases (ltb a b) (eqb a b && lex_before x y) e)
  where
    step : (ltb a b ≡ true) ⊎ ((eqb a b && lex_before x y) ≡ true) → (a < b) ⊎ ((a ≡ b) × (lex_before x y ≡ true))
    step (inl h) = inl (ltb-true a b h)
    step (inr h) = let both = and-true (eqb a b) (lex_before x y) h in inr (eqb-true a b both.0, both.1)

pub lex_less : (a b : ℕ) (x y : Bytes) → a < b → lex_before (a ∷ x) (b ∷ y) ≡ true
unfolding lex_before
lex_less a b x y h = or_left (eqb a b && lex_before x y) (lt-ltb a b h)

pub lex_tie : (a b : ℕ) (x y : Bytes) → a ≡ b → lex_before x y ≡ true → lex_before (a ∷ x) (b ∷ y) ≡ true
unfolding lex_before
lex_tie a b x y p h = or_right (ltb a b) (and_makes (eq-eqb a b p) h)

pub lex_irreflexive : (x : Bytes) → lex_before x x ≡ true → ⊥
unfolding lex_before
lex_irreflexive [] e = false≢true e
lex_irreflexive (a ∷ x) e = step (lex_irreflexive x) (lex_cases a a x x e)
  where
    step : (lex_before x x ≡ true → ⊥) → (a < a) ⊎ ((a ≡ a) × (lex_before x x ≡ true)) → ⊥
    step later (inl h) = omega arith
    step later (inr h) = later h.1

pub lex_transitive : (x y z : Bytes) → lex_before x y ≡ true → lex_before y z ≡ true → lex_before x z ≡ true
unfolding lex_before
lex_transitive [] y z e f = absurd (false≢true e)
lex_transitive (a ∷ x) [] z e f = absurd (false≢true e)
lex_transitive (a ∷ x) (b ∷ y) [] e f = absurd (false≢true f)
lex_transitive (a ∷ x) (b ∷ y) (c ∷ z) e f = step (lex_transitive x y z) (lex_cases a b x y e) (lex_cases b c y z f)
  where
    step : (lex_before x y ≡ true → lex_before y z ≡ true → lex_before x z ≡ true) → (a < b) ⊎ ((a ≡ b) × (lex_before x y ≡ true)) → (b < c) ⊎ ((b ≡ c) × (lex_before y z ≡ true))
        → lex_before (a ∷ x) (c ∷ z) ≡ true
    step later (inl h) (inl k) = lex_less a c x z (omega arith)
    step later (inl h) (inr k) = lex_less a c x z (omega arith)
    step later (inr h) (inl k) = lex_less a c x z (omega arith)
    step later (inr h) (inr k) = lex_tie a c x z (omega arith) (later h.1 k.1)

pub lex_total : (x y : Bytes) → length x ≡ length y → (lex_before x y ≡ true) ⊎ ((x ≡ y) ⊎ (lex_before y x ≡ true))
lex_total [] [] h = inr (inl refl)
lex_total [] (b ∷ y) h = absurd (omega arith)
lex_total (a ∷ x) [] h = absurd (omega arith)
lex_total (a ∷ x) (b ∷ y) h = step (trichotomy a b) (lex_total x y (omega arith))
  where
    step : (a < b) ⊎ ((a ≡ b) ⊎ (b < a)) → (lex_before x y ≡ true) ⊎ ((x ≡ y) ⊎ (lex_before y x ≡ true))
        → (lex_before (a ∷ x) (b ∷ y) ≡ true) ⊎ ((a ∷ x ≡ b ∷ y) ⊎ (lex_before (b ∷ y) (a ∷ x) ≡ true))
    step (inl p) later = inl (lex_less a b x y p)
    step (inr (inr p)) later = inr (inr (lex_less b a y x p))
    step (inr (inl p)) (inl q) = inl (lex_tie a b x y p q)
    step (inr (inl p)) (inr (inl q)) = inr (inl (cons_equal p q))
    step (inr (inl p)) (inr (inr q)) = inr (inr (lex_tie b a y x (sym p) q))

pub lex_strict : (object : Bytes → Bool) (k : ℕ) → ((x : Bytes) → object x ≡ true → length x ≡ k) → StrictTotal object lex_before
lex_strict object k sized = record {
  irreflexive = λ x o. lex_irreflexive x;
  transitive = λ x y z o p q. lex_transitive x y z;
  total = λ x y o p. lex_total x y (sized x o ∙ sym (sized y p));
}

-- by the last place that differs, over any order of the letters

-- a strict total order of numbers
abbrev pub Ordered : (ℕ → ℕ → Bool) → Type 0
Ordered lt = StrictTotal (λ (a : ℕ). true) lt

pub smaller_ordered : Ordered ltb
smaller_ordered = record {
  irreflexive = λ a o h. omega (arith, ltb-true a a h);
  transitive = λ a b c o p q h k. lt-ltb a c (omega (arith, ltb-true a b h, ltb-true b c k));
  total = λ a b o p. ⊎_elim (λ h. inl (lt-ltb a b h)) (λ r. inr (⊎_elim inl (λ h. inr (lt-ltb b a h)) r)) (trichotomy a b);
}

module _ (lt : ℕ → ℕ → Bool) where
  by_cases : (a b : ℕ) (x y : Bytes) → colex_by lt (a ∷ x) (b ∷ y) ≡ true → (colex_by lt x y ≡ true) ⊎ ((x ≡ y) × (lt a b ≡ true))
  unfolding colex_by
  by_cases a b x y e = step (or_cases (colex_by lt x y) (same x y && lt a b) e)
    where
      step : (colex_by lt x y ≡ true) ⊎ ((same x y && lt a b) ≡ true) → (colex_by lt x y ≡ true) ⊎ ((x ≡ y) × (lt a b ≡ true))
      step (inl h) = inl h
      step (inr h) = let both = and-true (same x y) (lt a b) h in inr (same-eq x y both.0, both.1)

  by_later : (a b : ℕ) (x y : Bytes) → colex_by lt x y ≡ true → colex_by lt (a ∷ x) (b ∷ y) ≡ true
  unfolding colex_by
  by_later a b x y h = or_left (same x y && lt a b) h

  by_tie : (a b : ℕ) (x y : Bytes) → x ≡ y → lt a b ≡ true → colex_by lt (a ∷ x) (b ∷ y) ≡ true
  unfolding colex_by
  by_tie a b x y p h = or_right (colex_by lt x y) (and_makes (eq-same p) h)

module _ {lt : ℕ → ℕ → Bool} (order : Ordered lt) where
  pub by_irreflexive : (x : Bytes) → colex_by lt x x ≡ true → ⊥
  unfolding colex_by
  by_irreflexive [] e = false≢true e
  by_irreflexive (a ∷ x) e = ⊎_elim (by_irreflexive x) (λ h. order.irreflexive a refl h.1) (by_cases lt a a x x e)

  pub by_transitive : (x y z : Bytes) → colex_by lt x y ≡ true → colex_by lt y z ≡ true → colex_by lt x z ≡ true
  unfolding colex_by
  by_transitive [] y z e f = absurd (false≢true e)
  by_transitive (a ∷ x) [] z e f = absurd (false≢true e)
  by_transitive (a ∷ x) (b ∷ y) [] e f = absurd (false≢true f)
  by_transitive (a ∷ x) (b ∷ y) (c ∷ z) e f = step (by_transitive x y z) (by_cases lt a b x y e) (by_cases lt b c y z f)
    where
      step : (colex_by lt x y ≡ true → colex_by lt y z ≡ true → colex_by lt x z ≡ true) → (colex_by lt x y ≡ true) ⊎ ((x ≡ y) × (lt a b ≡ true)) → (colex_by lt y z ≡ true) ⊎ ((y ≡ z) × (lt b c ≡ true))
          → colex_by lt (a ∷ x) (c ∷ z) ≡ true
      step later (inl h) (inl k) = by_later lt a c x z (later h k)
      step later (inl h) (inr k) = by_later lt a c x z (rw k.0 at h)
      step later (inr h) (inl k) = by_later lt a c x z (rw h.0 k)
      step later (inr h) (inr k) = by_tie lt a c x z (h.0 ∙ k.0) (order.transitive a b c refl refl refl h.1 k.1)

  pub by_total : (x y : Bytes) → length x ≡ length y → (colex_by lt x y ≡ true) ⊎ ((x ≡ y) ⊎ (colex_by lt y x ≡ true))
  by_total [] [] h = inr (inl refl)
  by_total [] (b ∷ y) h = absurd (omega arith)
  by_total (a ∷ x) [] h = absurd (omega arith)
  by_total (a ∷ x) (b ∷ y) h = step (by_total x y (omega arith)) (order.total a b refl refl)
    where
      step : (colex_by lt x y ≡ true) ⊎ ((x ≡ y) ⊎ (colex_by lt y x ≡ true)) → (lt a b ≡ true) ⊎ ((a ≡ b) ⊎ (lt b a ≡ true))
          → (colex_by lt (a ∷ x) (b ∷ y) ≡ true) ⊎ ((a ∷ x ≡ b ∷ y) ⊎ (colex_by lt (b ∷ y) (a ∷ x) ≡ true))
      step (inl p) q = inl (by_later lt a b x y p)
      step (inr (inr p)) q = inr (inr (by_later lt b a y x p))
      step (inr (inl p)) (inl q) = inl (by_tie lt a b x y p q)
      step (inr (inl p)) (inr (inl q)) = inr (inl (cons_equal q p))
      step (inr (inl p)) (inr (inr q)) = inr (inr (by_tie lt b a y x (sym p) q))

-- one more byte at the end of both comes first in the order by the last place

regroup : (less tie later equal front : Bool) → (less || (tie && later) || (equal && tie && front)) ≡ (less || (tie && (later || (equal && front))))
regroup true tie later equal front = refl
regroup false true later equal front = rw (and-with-true equal)
regroup false false later equal front = rw (and-false equal)

pub by_snoc : (lt : ℕ → ℕ → Bool) (x y : Bytes) (a b : ℕ) → length x ≡ length y → colex_by lt (x ++ (a ∷ [])) (y ++ (b ∷ [])) ≡ (lt a b || (eqb a b && colex_by lt x y))
unfolding colex_by same
by_snoc lt [] [] a b h = rw (and-false (eqb a b)) (sym (or-false (lt a b)))
by_snoc lt [] (d ∷ y) a b h = absurd (omega arith)
by_snoc lt (c ∷ x) [] a b h = absurd (omega arith)
by_snoc lt (c ∷ x) (d ∷ y) a b h =
    rw (by_snoc lt x y a b (omega arith), same-snoc x y a b (omega arith)) (regroup (lt a b) (eqb a b) (colex_by lt x y) (same x y) (lt c d))

-- by the smaller letter

pub colex_cases : (a b : ℕ) (x y : Bytes) → colex_before (a ∷ x) (b ∷ y) ≡ true → (colex_before x y ≡ true) ⊎ ((x ≡ y) × (a < b))
colex_cases a b x y e = ⊎_elim inl (λ h. inr (h.0, ltb-true a b h.1)) (by_cases ltb a b x y e)

pub colex_strict : (object : Bytes → Bool) (k : ℕ) → ((x : Bytes) → object x ≡ true → length x ≡ k) → StrictTotal object colex_before
colex_strict object k sized = record {
  irreflexive = λ x o. by_irreflexive smaller_ordered x;
  transitive = λ x y z o p q. by_transitive smaller_ordered x y z;
  total = λ x y o p. by_total smaller_ordered x y (sized x o ∙ sym (sized y p));
}

-- a smaller last number comes first, whatever stands in front
pub smaller_last : (x y : Bytes) (a b : ℕ) → length x ≡ length y → a < b → colex_before (x ++ (a ∷ [])) (y ++ (b ∷ [])) ≡ true
smaller_last x y a b h l = by_snoc ltb x y a b h ∙ or_left (eqb a b && colex_before x y) (lt-ltb a b l)

-- and with the same last number the one with the earlier front
pub earlier_front : (x y : Bytes) (a : ℕ) → length x ≡ length y → colex_before x y ≡ true → colex_before (x ++ (a ∷ [])) (y ++ (a ∷ [])) ≡ true
earlier_front x y a h l = by_snoc ltb x y a a h ∙ or_right (ltb a a) (and_makes (eq-eqb a a refl) l)
