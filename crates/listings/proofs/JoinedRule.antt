-- Loehr's product rule on byte strings: the joined list is the listing of the joined objects; its count and its ranks.
-- Assumes nothing.
use mathlib.Core.Path.{◌≡◌, sym, ◌∙◌, ap₂}
use mathlib.Core.Logic.{◌⊎◌, inl, inr, ⊎_elim}
use mathlib.Core.Bool.{Bool, true, ◌&&◌}
use mathlib.Core.List.{List, ◌++◌}
use Prim.Native.Nat.{ℕ, ◌+◌, ◌*◌}
use lib.ListN.{length, take, drop, take-append-drop}
use lib.Seq.{take_at, drop_at}
use Rattle.basics.proofs.Bools.{and-true, and_makes, or_cases, or_left, or_right}
use Rattle.listings.specs.Bytes.{Bytes, same}
use Rattle.listings.specs.Listings.{StrictTotal, Listing}
use Rattle.listings.specs.Places.{count_before}
use Rattle.listings.specs.Joined.{in_parts, by_parts, joined}
use Rattle.listings.proofs.ChoiceRules.{choice_rule}
use Rattle.listings.proofs.PlaceRules.{length_pairs, at_pairs}
use Rattle.listings.proofs.Ranks.{at_rank, place-is_rank}
use Rattle.listings.proofs.SameBytes.{eq-same, same-eq}

module _ {k : ℕ} {object₁ object₂ : Bytes → Bool} {lt₁ lt₂ : Bytes → Bytes → Bool} {l m : List Bytes}
    (firsts : Listing object₁ lt₁ l) (seconds : Listing object₂ lt₂ m) (long : (x : Bytes) → object₁ x ≡ true → length x ≡ k) where
  abbrev object : Bytes → Bool
  object = in_parts k object₁ object₂

  abbrev before : Bytes → Bytes → Bool
  before = by_parts k lt₁ lt₂

  -- the two parts of an object
  parts : (x : Bytes) → object x ≡ true → (object₁ (take k x) ≡ true) × (object₂ (drop k x) ≡ true)
  unfolding in_parts
  parts x o = and-true (object₁ (take k x)) (object₂ (drop k x)) o

  -- how two objects stand to each other
  Earlier : Bytes → Bytes → Type 0
  Earlier x y = (lt₁ (take k x) (take k y) ≡ true) ⊎ ((take k x ≡ take k y) × (lt₂ (drop k x) (drop k y) ≡ true))

  told : (x y : Bytes) → before x y ≡ true → Earlier x y
  unfolding by_parts Earlier
  told x y h =
      ⊎_elim inl (λ t. let both = and-true (same (take k x) (take k y)) (lt₂ (drop k x) (drop k y)) t in inr (same-eq (take k x) (take k y) both.0, both.1))
      (or_cases (lt₁ (take k x) (take k y)) (same (take k x) (take k y) && lt₂ (drop k x) (drop k y)) h)

  made : (x y : Bytes) → Earlier x y → before x y ≡ true
  unfolding by_parts Earlier
  made x y (inl h) = or_left (same (take k x) (take k y) && lt₂ (drop k x) (drop k y)) h
  made x y (inr (e, h)) = or_right (lt₁ (take k x) (take k y)) (and_makes (eq-same e) h)

  strict : StrictTotal object before
  strict = record {
    irreflexive = λ x o h. never x (parts x o) (told x x h);
    transitive = λ x y z o p q h j. made x z (chain x y z (parts x o) (parts y p) (parts z q) (told x y h) (told y z j));
    total = λ x y o p. compare x y (firsts.order.total (take k x) (take k y) (parts x o).0 (parts y p).0) (seconds.order.total (drop k x) (drop k y) (parts x o).1 (parts y p).1);
  }
    where
      never : (x : Bytes) → (object₁ (take k x) ≡ true) × (object₂ (drop k x) ≡ true) → Earlier x x → ⊥
      never x o e = unfold Earlier in ⊎_elim (firsts.order.irreflexive (take k x) o.0) (λ t. seconds.order.irreflexive (drop k x) o.1 t.1) e

      chain : (x y z : Bytes) → (object₁ (take k x) ≡ true) × (object₂ (drop k x) ≡ true) → (object₁ (take k y) ≡ true) × (object₂ (drop k y) ≡ true) → (object₁ (take k z) ≡ true) × (object₂ (drop k z) ≡ true) → Earlier x y → Earlier y z → Earlier x z
      chain x y z o p q = unfold Earlier in λ e f. ⊎_elim
          (λ h. ⊎_elim (λ j. inl (firsts.order.transitive (take k x) (take k y) (take k z) o.0 p.0 q.0 h j)) (λ t. inl (rw t.0 at h)) f)
          (λ s. ⊎_elim (λ j. inl (rw s.0 j)) (λ t. inr (s.0 ∙ t.0, seconds.order.transitive (drop k x) (drop k y) (drop k z) o.1 p.1 q.1 s.1 t.1)) f) e

      whole : (x y : Bytes) → take k x ≡ take k y → drop k x ≡ drop k y → x ≡ y
      whole x y e f = sym (take-append-drop k x) ∙ ap₂ (λ v w. v ++ w) e f ∙ take-append-drop k y

      compare : (x y : Bytes) → (lt₁ (take k x) (take k y) ≡ true) ⊎ ((take k x ≡ take k y) ⊎ (lt₁ (take k y) (take k x) ≡ true)) → (lt₂ (drop k x) (drop k y) ≡ true) ⊎ ((drop k x ≡ drop k y) ⊎ (lt₂ (drop k y) (drop k x) ≡ true))
          → (before x y ≡ true) ⊎ ((x ≡ y) ⊎ (before y x ≡ true))
      compare x y (inl h) r = inl (made x y (unfold Earlier in inl h))
      compare x y (inr (inr h)) r = inr (inr (made y x (unfold Earlier in inl h)))
      compare x y (inr (inl e)) (inl h) = inl (made x y (unfold Earlier in inr (e, h)))
      compare x y (inr (inl e)) (inr (inl f)) = inr (inl (whole x y e f))
      compare x y (inr (inl e)) (inr (inr h)) = inr (inr (made y x (unfold Earlier in inr (sym e, h))))

  -- a first and a second, joined
  glued : (x y : Bytes) → object₁ x ≡ true → (take k (x ++ y) ≡ x) × (drop k (x ++ y) ≡ y)
  glued x y o = (take_at x y k (long x o), drop_at x y k (long x o))

  pub joined_rule : Listing object before (joined l m)
  unfolding joined in_parts Earlier
  joined_rule =
      choice_rule (λ x. m) (λ x y. x ++ y)
      (record {
        object_of = λ x. object₂;
        lt_of = λ x. lt₂;
        ltc = lt₁;
        order = strict;
        rising = firsts.ascending;
        parts = λ x i. seconds;
        off = λ z o. record { choice = take k z; listed = firsts.every (take k z) (parts z o).0; left = drop k z; object = (parts z o).1; whole = take-append-drop k z };
        on = λ x y i o. let (e, f) = glued x y (firsts.only x i) in rw (e, f, firsts.only x i) o;
        less = λ x x' y y' i j h o p. let (e, f) = glued x y (firsts.only x i) in let (e', f') = glued x' y' (firsts.only x' j) in made (x ++ y) (x' ++ y') (inl (rw (e, e') h));
        tie = λ x y y' i o p h. let (e, f) = glued x y (firsts.only x i) in let (e', f') = glued x y' (firsts.only x i) in made (x ++ y) (x ++ y') (inr (e ∙ sym e', rw (f, f') h));
      })

  -- the count is the product
  pub joined_count : length (joined l m) ≡ length l * length m
  unfolding joined
  joined_count = length_pairs (λ a b. a ++ b) l m

  -- the rank is that of the first part times the seconds, plus that of the second part
  pub joined_rank : (x : Bytes) → object x ≡ true → count_before before x (joined l m) ≡ count_before lt₁ (take k x) l * length m + count_before lt₂ (drop k x) m
  unfolding joined
  joined_rank x o =
      let at = at_pairs (λ a b. a ++ b) l m _ _ (at_rank firsts (take k x) (parts x o).0) (at_rank seconds (drop k x) (parts x o).1) in
      place-is_rank joined_rule _ (rw (take-append-drop k x) at at)
