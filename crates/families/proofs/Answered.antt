-- Demands 1 and 2 by name: which calls are refused, by what and what they leave; what each call answers otherwise. So each theorem that speaks of an
-- answer has one here that says when it is given. Assumes nothing.
use mathlib.Core.Path.{◌≡◌, refl, sym, ◌∙◌, ap}
use mathlib.Core.Bool.{Bool, true}
use mathlib.Core.Option.{Option, none, some}
use mathlib.Core.List.{List}
use Prim.Native.Nat.{ℕ, suc, ◌-◌, ◌<◌, ◌^◌}
use native.Mathlib.Omega.{arith}
use lib.ListN.{length, get_or}
use Rattle.listings.specs.Bytes.{Bytes}
use Rattle.listings.specs.Places.{At}
use Rattle.listings.specs.Calls.{Call, COUNT, FIRST, LAST, NEXT, PREVIOUS, RANK, UNRANK, REFUSED, COUNTED, RANKED, WRITTEN, STEPPED, END, Said, first_no, judged, backward, stepped, act}
use Rattle.listings.proofs.PlaceRules.{at_below, at_exists}
use Rattle.listings.proofs.Standing.{get_elem_none}
use Rattle.listings.proofs.Ranks.{at_rank}
use Rattle.listings.proofs.Stepping.{place_here, stepped_on, stepped-back, neighbours_differ}
use Rattle.listings.proofs.Walks.{passes}
use Rattle.families.specs.declared.Family.{Family}
use Rattle.families.specs.Table.{Lent}
use Rattle.families.specs.Families.{allowed, object_length, is_object, comes_before, listing, count_of, rank_of}
use Rattle.families.specs.Questions.{opening, refusal}
use Rattle.families.specs.Calls.{respond}
use Rattle.families.proofs.Refusals.{Numbered, refusal-numbered}
use Rattle.families.proofs.FamilyFacts.{listed, lawful, object-allowed, asked-allowed, rank_is_place}
use Rattle.families.proofs.Verdicts.{first_passes, last_passes, previous_passes, rank_passes, unrank_passes}
use Rattle.families.proofs.Responses.{refused, acts, writes_ranked, count_said}
use Rattle.families.proofs.Going.{object-here, opens, next-is}

-- no call that is carried out answers a refusal

stepped-not_refused : (x : Bytes) (o : Option Bytes) {q : ℕ} {y : Bytes} → ◌≡◌ {A = Said} (stepped x o) (REFUSED q, y) → ⊥
unfolding stepped
stepped-not_refused x none e = let a = ap (λ (s : Said). s.0) e in let z : ◌≡◌ {A = ℕ} 0 1 = cc in omega arith
stepped-not_refused x (some w) e = let a = ap (λ (s : Said). s.0) e in let z : ◌≡◌ {A = ℕ} 0 1 = cc in omega arith

not_refused : (c : Call) (lt : Bytes → Bytes → Bool) (l : List Bytes) (x : Bytes) {q : ℕ} {y : Bytes} → ◌≡◌ {A = Said} (act c lt l x) (REFUSED q, y) → ⊥
unfolding act
not_refused COUNT lt l x e = let a = ap (λ (s : Said). s.0) e in let z : ◌≡◌ {A = ℕ} 0 1 = cc in omega arith
not_refused FIRST lt l x e = let a = ap (λ (s : Said). s.0) e in let z : ◌≡◌ {A = ℕ} 0 1 = cc in omega arith
not_refused LAST lt l x e = let a = ap (λ (s : Said). s.0) e in let z : ◌≡◌ {A = ℕ} 0 1 = cc in omega arith
not_refused NEXT lt l x e = stepped-not_refused x _ e
not_refused PREVIOUS lt l x e = stepped-not_refused x _ e
not_refused RANK lt l x e = let a = ap (λ (s : Said). s.0) e in let z : ◌≡◌ {A = ℕ} 0 1 = cc in omega arith
not_refused (UNRANK r) lt l x e = let a = ap (λ (s : Said). s.0) e in let z : ◌≡◌ {A = ℕ} 0 1 = cc in omega arith

-- question q is the first that the call misses, it is one of the questions, and the bytes y that are left are those that were lent
pub record Missed (c : Call) (f : Family) (b : Lent) (x : Bytes) (q : ℕ) (y : Bytes) : Type 0 where
  pub first : refusal c f b (length x) (is_object f b x) ≡ some q
  pub question : Numbered q
  pub unchanged : y ≡ x

-- UNRANK of r has written an object whose rank is r
pub record Rebuilt (f : Family) (b : Lent) (r : ℕ) (y : Bytes) : Type 0 where
  pub object : Bytes
  pub written : respond (UNRANK r) f b y ≡ (WRITTEN, object)
  pub is-object : is_object f b object ≡ true
  pub ranked : respond RANK f b object ≡ (RANKED r, object)

-- a step from x has gone to the object of rank r
pub record SteppedTo (c : Call) (f : Family) (b : Lent) (x : Bytes) (r : ℕ) : Type 0 where
  pub object : Bytes
  pub stepped : respond c f b x ≡ (STEPPED, object)
  pub is-object : is_object f b object ≡ true
  pub rank : rank_of f b object ≡ r

-- x stands at the place r and at no other
pub record Once (l : List Bytes) (x : Bytes) (r : ℕ) : Type 0 where
  pub here : At l x r
  pub only : (p : ℕ) → At l x p → p ≡ r

module _ (f : Family) (b : Lent) where
  -- Demand 1: a call is refused exactly where a question is missed, by the number of the first, and no byte changes

  pub refused_where_missed : (c : Call) (x : Bytes) {q : ℕ} → refusal c f b (length x) (is_object f b x) ≡ some q → respond c f b x ≡ (REFUSED q, x)
  refused_where_missed c x e = sym (refused f b x c e)

  pub missed_where_refused : (c : Call) (x : Bytes) {q : ℕ} {y : Bytes} → respond c f b x ≡ (REFUSED q, y) → Missed c f b x q y
  unfolding respond judged
  missed_where_refused c x {q} {y} e = go (refusal c f b (length x) (is_object f b x)) refl e
    where
      go : (o : Option ℕ) → refusal c f b (length x) (is_object f b x) ≡ o → ◌≡◌ {A = Said} (judged o x (act c (comes_before f b) (listing f b) x)) (REFUSED q, y) → Missed c f b x q y
      go none r s = absurd (not_refused c (comes_before f b) (listing f b) x s)
      go (some p) r s =
          let same : p ≡ q = let a = ap (λ (s : Said). s.0) s in cc in
          let first : refusal c f b (length x) (is_object f b x) ≡ some q = r ∙ ap {B = Option ℕ} some same in
          record { first = first; question = refusal-numbered c f b (length x) (is_object f b x) first; unchanged = sym (ap (λ (s : Said). s.1) s) }

  -- a call that misses none is carried out
  pub carried_out : (c : Call) (x : Bytes) → refusal c f b (length x) (is_object f b x) ≡ none → respond c f b x ≡ act c (comes_before f b) (listing f b) x
  carried_out c x pass = sym (acts f b x c pass)

  -- Demand 2: the count, the rank, and the object of a rank

  pub count_answers : (x : Bytes) → allowed f b ≡ true → count_of f b < 2 ^ 64 → respond COUNT f b x ≡ (COUNTED (count_of f b), x)
  count_answers x a fits = sym (count_said f b x (asked-allowed f b a) fits)

  pub object_at_rank : (x : Bytes) → is_object f b x ≡ true → At (listing f b) x (rank_of f b x)
  unfolding rank_of
  object_at_rank x o = at_rank (listed f b) x o

  -- each object stands exactly once
  pub each_once : (x : Bytes) → is_object f b x ≡ true → Once (listing f b) x (rank_of f b x)
  each_once x o = record { here = object_at_rank x o; only = λ p h. sym (rank_is_place f b p h) }

  below : (x : Bytes) → is_object f b x ≡ true → rank_of f b x < count_of f b
  unfolding count_of
  below x o = at_below (listing f b) (rank_of f b x) (object_at_rank x o)

  -- a family with an object passes the questions about the family
  pub opens_for : (x : Bytes) → is_object f b x ≡ true → first_no (opening FIRST f b) ≡ none
  opens_for x o = opens f b (object-allowed f b x o) (omega (arith, below x o))

  -- what RANK's number tells: no question was missed, and it is the rank
  pub rank_told : (x : Bytes) {r : ℕ} → respond RANK f b x ≡ (RANKED r, x) → (refusal RANK f b (length x) (is_object f b x) ≡ none) × (rank_of f b x ≡ r)
  unfolding respond act rank_of
  rank_told x {r} e =
      let (pass, acted) = passes (refusal RANK f b (length x) (is_object f b x)) x e (λ q w. let z : ◌≡◌ {A = ℕ} 0 1 = cc in omega arith) in
      let rank : rank_of f b x ≡ r = cc (ap (λ (s : Said). s.0) acted) in
      (pass, rank)

  pub rank_answers : (x : Bytes) → is_object f b x ≡ true → count_of f b < 2 ^ 64 → respond RANK f b x ≡ (RANKED (rank_of f b x), x)
  unfolding act rank_of
  rank_answers x o fits = carried_out RANK x (rw o (rank_passes f b (length x) (opens_for x o) fits ((lawful f b).long x o)))

  pub unrank_answers : (r : ℕ) (y : Bytes) → allowed f b ≡ true → count_of f b < 2 ^ 64 → r < count_of f b → length y ≡ object_length f b → Rebuilt f b r y
  unfolding count_of
  unrank_answers r y a fits lower long =
      let (x, h) = at_exists (listing f b) r lower in
      let o = object-here f b r h in
      let pass = unrank_passes f b r (length y) (is_object f b y) (opens f b a (omega arith)) fits long lower in
      record {
        object = x;
        written = sym (writes_ranked f b y r h pass);
        is-object = o;
        ranked = rank_answers x o fits ∙ ap (λ (p : ℕ). (RANKED p, x)) (rank_is_place f b r h);
      }

  -- FIRST and LAST

  pub first-answers : (y : Bytes) → allowed f b ≡ true → 0 < count_of f b → length y ≡ object_length f b → respond FIRST f b y ≡ (WRITTEN, get_or (listing f b) 0 y)
  unfolding act
  first-answers y a h long = carried_out FIRST y (first_passes f b (length y) (is_object f b y) (opens f b a h) long)

  pub last-answers : (y : Bytes) → allowed f b ≡ true → 0 < count_of f b → length y ≡ object_length f b → respond LAST f b y ≡ (WRITTEN, get_or (listing f b) (count_of f b - 1) y)
  unfolding act count_of
  last-answers y a h long = carried_out LAST y (last_passes f b (length y) (is_object f b y) (opens f b a h) long)

  -- NEXT and PREVIOUS: an object with one behind it, or before it, and one without

  previous_is : (x : Bytes) → is_object f b x ≡ true → respond PREVIOUS f b x ≡ stepped x (backward (listing f b) (some (rank_of f b x)))
  unfolding act
  previous_is x o =
      carried_out PREVIOUS x (rw o (previous_passes f b (length x) (opens_for x o) ((lawful f b).long x o)))
      ∙ rw (place_here (listed f b) (rank_of f b x) (object_at_rank x o))

  pub next-answers : (x : Bytes) → is_object f b x ≡ true → suc (rank_of f b x) < count_of f b → SteppedTo NEXT f b x (suc (rank_of f b x))
  unfolding count_of stepped
  next-answers x o h =
      let r = rank_of f b x in
      let (y, there) = at_exists (listing f b) (suc r) h in
      record {
        object = y;
        stepped = next-is f b r (object_at_rank x o) ∙ rw there;
        is-object = object-here f b (suc r) there;
        rank = rank_is_place f b (suc r) there;
      }

  pub next_ends : (x : Bytes) → is_object f b x ≡ true → suc (rank_of f b x) ≡ count_of f b → respond NEXT f b x ≡ (END, x)
  unfolding count_of stepped
  next_ends x o h = next-is f b (rank_of f b x) (object_at_rank x o) ∙ rw (get_elem_none (listing f b) (suc (rank_of f b x)) (omega arith))

  lower_too : (x : Bytes) (r : ℕ) → is_object f b x ≡ true → rank_of f b x ≡ suc r → r < length (listing f b)
  unfolding count_of
  lower_too x r o e = omega (arith, below x o)

  pub previous_answers : (x : Bytes) (r : ℕ) → is_object f b x ≡ true → rank_of f b x ≡ suc r → SteppedTo PREVIOUS f b x r
  unfolding count_of backward stepped
  previous_answers x r o e =
      let lower : r < length (listing f b) = lower_too x r o e in
      let (y, there) = at_exists (listing f b) r lower in
      record {
        object = y;
        stepped = previous_is x o ∙ rw (e, there);
        is-object = object-here f b r there;
        rank = rank_is_place f b r there;
      }

  pub previous_ends : (x : Bytes) → is_object f b x ≡ true → rank_of f b x ≡ 0 → respond PREVIOUS f b x ≡ (END, x)
  unfolding backward stepped
  previous_ends x o e = previous_is x o ∙ rw e

  -- a NEXT or PREVIOUS that says it stepped has moved

  stepped_acts : (c : Call) (x : Bytes) {y : Bytes} → respond c f b x ≡ (STEPPED, y) → ◌≡◌ {A = Said} (STEPPED, y) (act c (comes_before f b) (listing f b) x)
  unfolding respond
  stepped_acts c x e = sym (passes (refusal c f b (length x) (is_object f b x)) x e (λ q w. let z : ◌≡◌ {A = ℕ} 0 1 = cc in omega arith)).1

  pub next-moves : (x : Bytes) {y : Bytes} → respond NEXT f b x ≡ (STEPPED, y) → x ≡ y → ⊥
  next-moves x e = neighbours_differ (listed f b) (stepped_on (comes_before f b) (listing f b) x (stepped_acts NEXT x e))

  pub previous_moves : (x : Bytes) {y : Bytes} → respond PREVIOUS f b x ≡ (STEPPED, y) → x ≡ y → ⊥
  previous_moves x e same = neighbours_differ (listed f b) (stepped-back (comes_before f b) (listing f b) x (stepped_acts PREVIOUS x e)) (sym same)
