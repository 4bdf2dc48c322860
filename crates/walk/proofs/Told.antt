-- What a step of a walk answers and keeps, by what its call told; and that NEXT leads back from where PREVIOUS went.
-- Assumes nothing.
use mathlib.Core.Path.{◌≡◌, refl, sym, ◌∙◌, ap}
use mathlib.Core.Bool.{Bool}
use mathlib.Core.Option.{Option, none, some}
use mathlib.Core.List.{List}
use Prim.Native.Nat.{ℕ, zero, suc, ◌+◌, ◌-◌, ◌<◌, ◌^◌}
use native.Mathlib.Omega.{arith}
use native.Mathlib.Numerals.{add-one}
use lib.ListN.{length}
use Rattle.listings.specs.Bytes.{Bytes}
use Rattle.listings.specs.Calls.{NEXT, PREVIOUS, Answer, REFUSED, STEPPED, END, Said, judged, place_of, stepped, act}
use Rattle.listings.proofs.Stepping.{stepped-back}
use Rattle.listings.proofs.Walks.{passes}
use Rattle.families.specs.declared.Family.{Family}
use Rattle.families.specs.Table.{Lent}
use Rattle.families.specs.Families.{is_object, comes_before, listing, count_of}
use Rattle.families.specs.Questions.{refusal}
use Rattle.families.specs.Calls.{respond}
use Rattle.families.proofs.Going.{next-is}
use Rattle.walk.specs.declared.Way.{Way}
use Rattle.walk.specs.declared.Way.TheVariants.{Forth, Back}
use Rattle.walk.specs.Walks.{call_of, kept, Outcome, step_refusal, neighbour, renumbered, goes_to, unless_missed, step_kept}
use Rattle.walk.proofs.Asked.{as_the_call}

-- the call of a step finds what the step finds
pub acts_so : (a : Way) (lt : Bytes → Bytes → Bool) (l : List Bytes) (x : Bytes) → act (call_of a) lt l x ≡ stepped x (neighbour a l (place_of l x))
unfolding call_of act neighbour
acts_so Forth lt l x = refl
acts_so Back lt l x = refl

pub not-stepped : {q : ℕ} → REFUSED q ≡ STEPPED → ⊥
not-stepped e = let z : ◌≡◌ {A = ℕ} 0 1 = cc in omega arith

pub not_end : END ≡ STEPPED → ⊥
not_end e = let z : ◌≡◌ {A = ℕ} 0 1 = cc in omega arith

-- the number for the object found

pub one_on_lem : {a : Way} (r : ℕ) → a ≡ Forth → renumbered a r ≡ some (r + 1)
unfolding renumbered
one_on_lem r e = rw (e, add-one r)

pub none_off : {a : Way} {r : ℕ} → a ≡ Back → r ≡ 0 → renumbered a r ≡ none
unfolding renumbered
none_off e h = rw (e, h)

pub one_off : {a : Way} (r : ℕ) → a ≡ Back → (r ≡ 0 → ⊥) → renumbered a r ≡ some (r - 1)
unfolding renumbered
one_off zero e h = absurd (h refl)
one_off (suc r) e h =
    let down : r ≡ suc r - 1 = omega arith in
    rw e (ap {B = Option ℕ} some down)

-- by the questions, the object found and the number for it
module _ (x : Bytes) (r : ℕ) where
  left_alone : (o : Option ℕ) (n : Option Bytes) (m : Option ℕ) {s : Answer} {y : Bytes} → (s ≡ STEPPED → ⊥) → ◌≡◌ {A = Said} (s, y) (judged o x (stepped x n))
      → ◌≡◌ {A = Outcome} (s, kept y r) (unless_missed o (kept x r) (goes_to (kept x r) n m))
  unfolding judged stepped unless_missed goes_to
  left_alone (some q) n m h e = ap {B = Outcome} (λ (t : Said). (t.0, kept t.1 r)) e
  left_alone none none m h e = ap {B = Outcome} (λ (t : Said). (t.0, kept t.1 r)) e
  left_alone none (some z) m h e = absurd (h (ap (λ (t : Said). t.0) e))

  gone_on : (o : Option ℕ) (n : Option Bytes) {m : Option ℕ} {s : Answer} {y : Bytes} {p : ℕ} → s ≡ STEPPED → m ≡ some p → ◌≡◌ {A = Said} (s, y) (judged o x (stepped x n))
      → ◌≡◌ {A = Outcome} (s, kept y p) (unless_missed o (kept x r) (goes_to (kept x r) n m))
  unfolding judged stepped unless_missed goes_to
  gone_on (some q) n st h e = absurd (not-stepped (sym (ap (λ (t : Said). t.0) e) ∙ st))
  gone_on none none st h e = absurd (not_end (sym (ap (λ (t : Said). t.0) e) ∙ st))
  gone_on none (some z) {p = p} st h e = rw h (ap {B = Outcome} (λ (t : Said). (t.0, kept t.1 p)) e)

  numberless : (o : Option ℕ) (n : Option Bytes) {m : Option ℕ} {s : Answer} {y : Bytes} → s ≡ STEPPED → m ≡ none → ◌≡◌ {A = Said} (s, y) (judged o x (stepped x n))
      → ◌≡◌ {A = Outcome} (REFUSED 8, kept x r) (unless_missed o (kept x r) (goes_to (kept x r) n m))
  unfolding judged stepped unless_missed goes_to
  numberless (some q) n st h e = absurd (not-stepped (sym (ap (λ (t : Said). t.0) e) ∙ st))
  numberless none none st h e = absurd (not_end (sym (ap (λ (t : Said). t.0) e) ∙ st))
  numberless none (some z) st h e = rw h

module _ (a : Way) (f : Family) (b : Lent) (x : Bytes) (r : ℕ) where
  -- a question missed
  pub refused_so : (size : ℕ) {q : ℕ} → step_refusal f b size (is_object f b x) r ≡ some q → ◌≡◌ {A = Outcome} (REFUSED q, kept x r) (step_kept a f b size (kept x r))
  unfolding step_kept unless_missed
  refused_so size e = rw e

  -- where the number is below a count that fits, the call's answer tells
  module _ (low : r < count_of f b) (fits : count_of f b < 2 ^ 64) where
    told : respond (call_of a) f b x ≡ judged (step_refusal f b (length x) (is_object f b x) r) x (stepped x (neighbour a (listing f b) (place_of (listing f b) x)))
    unfolding respond
    told = rw (as_the_call f b (length x) (is_object f b x) a r low fits, acts_so a (comes_before f b) (listing f b) x)

    pub stays_so : {s : Answer} {y : Bytes} → (s ≡ STEPPED → ⊥) → ◌≡◌ {A = Said} (s, y) (respond (call_of a) f b x) → ◌≡◌ {A = Outcome} (s, kept y r) (step_kept a f b (length x) (kept x r))
    unfolding step_kept
    stays_so h e = left_alone x r (step_refusal f b (length x) (is_object f b x) r) (neighbour a (listing f b) (place_of (listing f b) x)) (renumbered a r) h (e ∙ told)

    pub goes_so : {s : Answer} {y : Bytes} {p : ℕ} → s ≡ STEPPED → renumbered a r ≡ some p → ◌≡◌ {A = Said} (s, y) (respond (call_of a) f b x) → ◌≡◌ {A = Outcome} (s, kept y p) (step_kept a f b (length x) (kept x r))
    unfolding step_kept
    goes_so st h e = gone_on x r (step_refusal f b (length x) (is_object f b x) r) (neighbour a (listing f b) (place_of (listing f b) x)) st h (e ∙ told)

    pub numberless_so : {s : Answer} {y : Bytes} → s ≡ STEPPED → renumbered a r ≡ none → ◌≡◌ {A = Said} (s, y) (respond (call_of a) f b x) → ◌≡◌ {A = Outcome} (REFUSED 8, kept x r) (step_kept a f b (length x) (kept x r))
    unfolding step_kept
    numberless_so st h e = numberless x r (step_refusal f b (length x) (is_object f b x) r) (neighbour a (listing f b) (place_of (listing f b) x)) st h (e ∙ told)

-- NEXT undoes PREVIOUS

undone : (f : Family) (b : Lent) (x : Bytes) {y : Bytes} → ◌≡◌ {A = Said} (STEPPED, y) (respond PREVIOUS f b x) → respond NEXT f b y ≡ (STEPPED, x)
unfolding respond stepped
undone f b x e =
    let (_, acted) = passes (refusal PREVIOUS f b (length x) (is_object f b x)) x (sym e) (λ q w. not-stepped w) in
    let behind = stepped-back (comes_before f b) (listing f b) x (sym acted) in
    next-is f b behind.place behind.here ∙ rw behind.there

pub back_undone : (f : Family) (b : Lent) (x : Bytes) {a : Way} {s : Answer} {y : Bytes} → a ≡ Back → s ≡ STEPPED → ◌≡◌ {A = Said} (s, y) (respond (call_of a) f b x)
    → respond (call_of Forth) f b y ≡ (STEPPED, x)
unfolding call_of
back_undone f b x back st e = undone f b x (rw (st, back) at e)
