-- What a step does to any walk, also to one that nobody started: what its call does, unless it is refused, and one more or one less.
-- Assumes nothing.
use mathlib.Core.Path.{◌≡◌, refl, sym, ◌∙◌, ap}
use mathlib.Core.Bool.{Bool, true}
use mathlib.Core.Option.{Option, none, some, some-ne-none}
use mathlib.Core.List.{List}
use Prim.Native.Nat.{ℕ}
use lib.ListN.{length, drop}
use lib.Seq.{take_at}
use Rattle.listings.specs.Bytes.{Bytes}
use Rattle.listings.specs.Places.{Follows}
use Rattle.listings.specs.Calls.{PREVIOUS, Answer, REFUSED, STEPPED, END, Said, place_of, stepped, act}
use Rattle.listings.proofs.Stepping.{stepped_on, stepped-back}
use Rattle.families.specs.declared.Family.{Family}
use Rattle.families.specs.Table.{Lent}
use Rattle.families.specs.Families.{is_object, comes_before, listing}
use Rattle.families.specs.Questions.{refusal}
use Rattle.families.specs.Calls.{respond}
use Rattle.families.proofs.FamilyFacts.{lawful}
use Rattle.families.proofs.Going.{object-here}
use Rattle.families.proofs.Answered.{carried_out}
use Rattle.walk.specs.declared.Walk.{Walk}
use Rattle.walk.specs.declared.Way.{Way}
use Rattle.walk.specs.declared.Way.TheVariants.{Forth, Back}
use Rattle.walk.specs.Walks.{call_of, Kept, kept, Outcome, step_refusal, neighbour, renumbered, goes_to, unless_missed, step_kept, kept_by, keep, step_walk}
use Rattle.walk.proofs.Asked.{sized, object_held, call_passes}
use Rattle.walk.proofs.Told.{acts_so, not-stepped, not_end}
use Rattle.walk.proofs.Arrays.{keep_same}

-- a walk with as many bytes kept keeps these
pub keeps : (w : Walk) (k : Kept) → length k.bytes ≡ w.len → kept_by (keep w k) ≡ k
unfolding keep kept_by
keeps w k e = ap (λ (l : Bytes). kept l k.number) (take_at k.bytes (drop w.len w.bytes) w.len e)

-- y is the one just after x, or just before it
abbrev pub Beside : Way → List Bytes → Bytes → Bytes → Type 0
Beside Forth l x y = Follows l x y
Beside Back l x y = Follows l y x

beside : (a : Way) (lt : Bytes → Bytes → Bool) (l : List Bytes) (x : Bytes) {y : Bytes} → neighbour a l (place_of l x) ≡ some y → Beside a l x y
unfolding neighbour act stepped
beside Forth lt l x e = stepped_on lt l x (rw e)
beside Back lt l x e = stepped-back lt l x (rw e)

pub beside-object : (a : Way) (f : Family) (c : Lent) (x y : Bytes) → Beside a (listing f c) x y → is_object f c y ≡ true
beside-object Forth f c x y s = object-here f c _ s.there
beside-object Back f c x y s = object-here f c _ s.here

-- the first question that a step misses, of bytes that are said to be of that size
abbrev pub misses : Family → Lent → ℕ → Kept → Option ℕ
misses f c size k = step_refusal f c size (is_object f c k.bytes) k.number

-- the object that it finds
abbrev finds : Way → Family → Lent → Kept → Option Bytes
finds a f c k = neighbour a (listing f c) (place_of (listing f c) k.bytes)

-- how a step has gone: a question was missed; there is no neighbour; there is one, and a number for it, or none
pub data Gone (a : Way) (f : Family) (c : Lent) (size : ℕ) (k : Kept) : Outcome → Type 0 where
  missed : {q : ℕ} → misses f c size k ≡ some q → Gone a f c size k (REFUSED q, k)
  ended : misses f c size k ≡ none → respond (call_of a) f c k.bytes ≡ (END, k.bytes) → Gone a f c size k (END, k)
  moved : {y : Bytes} {r : ℕ} → misses f c size k ≡ none → respond (call_of a) f c k.bytes ≡ (STEPPED, y) → Beside a (listing f c) k.bytes y
      → renumbered a k.number ≡ some r → Gone a f c size k (STEPPED, kept y r)
  numberless : {y : Bytes} → misses f c size k ≡ none → respond (call_of a) f c k.bytes ≡ (STEPPED, y) → Beside a (listing f c) k.bytes y
      → renumbered a k.number ≡ none → Gone a f c size k (REFUSED 8, k)

module _ (a : Way) (f : Family) (c : Lent) (size : ℕ) (k : Kept) where
  -- where no question is missed the bytes are an object, so they have the size said, and the call passes too

  long_as_said : misses f c size k ≡ none → length k.bytes ≡ size
  long_as_said pass =
      (lawful f c).long k.bytes (object_held f c size (is_object f c k.bytes) k.number pass)
      ∙ sym (sized f c size (is_object f c k.bytes) k.number pass)

  call_goes : misses f c size k ≡ none → respond (call_of a) f c k.bytes ≡ stepped k.bytes (finds a f c k)
  call_goes pass =
      let call = call_passes f c size (is_object f c k.bytes) k.number pass a in
      carried_out f c (call_of a) k.bytes (ap (λ (s : ℕ). refusal (call_of a) f c s (is_object f c k.bytes)) (long_as_said pass) ∙ call)
      ∙ acts_so a (comes_before f c) (listing f c) k.bytes

  pub gone : Gone a f c size k (step_kept a f c size k)
  unfolding step_kept unless_missed goes_to stepped
  gone = asked (misses f c size k) refl
    where
      at : {y : Bytes} → finds a f c k ≡ some y → Beside a (listing f c) k.bytes y
      at e = beside a (comes_before f c) (listing f c) k.bytes e

      found : (n : Option Bytes) (o : Option ℕ) → misses f c size k ≡ none → finds a f c k ≡ n → renumbered a k.number ≡ o
          → Gone a f c size k (goes_to k n o)
      found none o pass e h = ended pass (call_goes pass ∙ rw e)
      found (some y) (some r) pass e h = moved {y = y} pass (call_goes pass ∙ rw e) (at e) h
      found (some y) none pass e h = numberless {y = y} pass (call_goes pass ∙ rw e) (at e) h

      asked : (o : Option ℕ) → misses f c size k ≡ o → Gone a f c size k (unless_missed o k (goes_to k (finds a f c k) (renumbered a k.number)))
      asked none e = found _ _ e refl refl
      asked (some q) e = missed e

  -- what that tells

  plain : {s : Outcome} → Gone a f c size k s → ((q : ℕ) → s.0 ≡ REFUSED q → ⊥) → ◌≡◌ {A = Said} (s.0, s.1.bytes) (respond (call_of a) f c k.bytes)
  plain (missed {q} e) h = absurd (h q refl)
  plain (ended pass e) h = sym e
  plain (moved pass e n m) h = sym e
  plain (numberless pass e n m) h = absurd (h 8 refl)

  long_after : {s : Outcome} → Gone a f c size k s → ((q : ℕ) → s.0 ≡ REFUSED q → ⊥) → length s.1.bytes ≡ size
  long_after (missed {q} e) h = absurd (h q refl)
  long_after (ended pass e) h = long_as_said pass
  long_after (moved {y} pass e n m) h =
      (lawful f c).long y (beside-object a f c k.bytes y n) ∙ sym (sized f c size (is_object f c k.bytes) k.number pass)
  long_after (numberless pass e n m) h = absurd (h 8 refl)

  kept_stays : {s : Outcome} → Gone a f c size k s → (s.0 ≡ STEPPED → ⊥) → s.1 ≡ k
  kept_stays (missed e) h = refl
  kept_stays (ended pass e) h = refl
  kept_stays (moved pass e n m) h = absurd (h refl)
  kept_stays (numberless pass e n m) h = refl

  kept-counts : {s : Outcome} → Gone a f c size k s → s.0 ≡ STEPPED → renumbered a k.number ≡ some s.1.number
  kept-counts (missed e) h = absurd (not-stepped h)
  kept-counts (ended pass e) h = absurd (not_end h)
  kept-counts (moved pass e n m) h = m
  kept-counts (numberless pass e n m) h = absurd (not-stepped h)

  no_number : {s : Outcome} {y : Bytes} → Gone a f c size k s → misses f c size k ≡ none → respond (call_of a) f c k.bytes ≡ (STEPPED, y)
      → renumbered a k.number ≡ none → s ≡ (REFUSED 8, k)
  no_number (missed {q} e) pass found h = absurd (some-ne-none q (sym e ∙ pass))
  no_number (ended p e) pass found h = absurd (not_end (ap (λ (s : Said). s.0) (sym e ∙ found)))
  no_number (moved {r = r} p e n m) pass found h = absurd (some-ne-none r (sym m ∙ h))
  no_number (numberless p e n m) pass found h = refl

module _ (w : Walk) (a : Way) (c : Lent) where
  went : Gone a w.family c w.len (kept_by w) (step_kept a w.family c w.len (kept_by w))
  went = gone a w.family c w.len (kept_by w)

  -- a step that isn't refused answers and leaves what the plain call does, on the bytes kept
  pub as_plain_call : ((q : ℕ) → (step_walk a c w).0 ≡ REFUSED q → ⊥)
      → ◌≡◌ {A = Said} ((step_walk a c w).0, (kept_by (step_walk a c w).1).bytes) (respond (call_of a) w.family c (kept_by w).bytes)
  unfolding step_walk
  as_plain_call h =
      let s = step_kept a w.family c w.len (kept_by w) in
      ap (λ (k : Kept). (s.0, k.bytes)) (keeps w s.1 (long_after a w.family c w.len (kept_by w) went h))
      ∙ plain a w.family c w.len (kept_by w) went h

  -- one that doesn't move leaves the walk, all of its array
  pub stays : ((step_walk a c w).0 ≡ STEPPED → ⊥) → (step_walk a c w).1 ≡ w
  unfolding step_walk
  stays h = ap (keep w) (kept_stays a w.family c w.len (kept_by w) went h) ∙ keep_same w

  -- and one that does adds one to the number or takes one off
  pub counts-one : (step_walk a c w).0 ≡ STEPPED → renumbered a w.number ≡ some (step_walk a c w).1.number
  unfolding step_walk keep kept_by
  counts-one h = kept-counts a w.family c w.len (kept_by w) went h

-- an object before a made-up number 0 has no number
pub previous_at_zero : (w : Walk) (c : Lent) {y : Bytes} → w.number ≡ 0
    → step_refusal w.family c w.len (is_object w.family c (kept_by w).bytes) 0 ≡ none
    → respond PREVIOUS w.family c (kept_by w).bytes ≡ (STEPPED, y) → ◌≡◌ {A = Answer × Walk} (step_walk Back c w) (REFUSED 8, w)
unfolding step_walk kept_by call_of renumbered
previous_at_zero w c zeroth pass found =
    let e = no_number Back w.family c w.len (kept_by w) (went w Back c) (rw zeroth pass) found (rw zeroth) in
    ap (λ (s : Outcome). (s.0, keep w s.1)) e ∙ ap (λ (v : Walk). (REFUSED 8, v)) (keep_same w)
