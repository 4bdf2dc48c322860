-- Demand 3 over any listing and any table of questions: whatever calls are made, in whatever order, they answer and leave what the marker does.
-- Assumes nothing.
use mathlib.Core.Path.{◌≡◌, refl, sym, ap, ◌∙◌}
use mathlib.Core.Bool.{Bool, true, false, cond, false≢true}
use mathlib.Core.Option.{Option, none, some}
use mathlib.Core.List.{List, [], ◌∷◌}
use Prim.Native.Nat.{ℕ, zero, suc, ◌-◌, ◌<◌}
use native.Mathlib.Omega.{arith}
use lib.Dec.{ltb}
use lib.ListN.{length, get_or, get_elem?}
use borrow.Author.Tests.{ltb-true, ltb-false}
use Rattle.listings.specs.Bytes.{Bytes}
use Rattle.listings.specs.Listings.{Listing}
use Rattle.listings.specs.Calls.{Call, COUNT, FIRST, LAST, NEXT, PREVIOUS, RANK, UNRANK, Answer, WRITTEN, STEPPED, END, Said, judged, place_of, onward, backward, stepped, act, responses}
use Rattle.listings.specs.Marker.{Mark, start, stands, shown, one_on, one_back, rank_at, move, marked, Refuse, run_from, marker_run}
use Rattle.listings.proofs.Standing.{get_d_default, get_elem_some, get_elem_none, Tells, place-tells, object_at, not-object, rank_at_lem, place_at}

-- a listing all of whose objects are len bytes long
pub record Lawful (object : Bytes → Bool) (lt : Bytes → Bytes → Bool) (l : List Bytes) (len : ℕ) : Type 0 where
  pub lists : Listing object lt l
  pub long : (x : Bytes) → object x ≡ true → length x ≡ len

-- "All calls but COUNT": those with a lent object buffer
abbrev pub with_buffer : Call → Bool
with_buffer COUNT = false
with_buffer FIRST = true
with_buffer LAST = true
with_buffer NEXT = true
with_buffer PREVIOUS = true
with_buffer RANK = true
with_buffer (UNRANK r) = true

-- "RANK, NEXT, PREVIOUS": those that read the object in it
abbrev pub with_object : Call → Bool
with_object COUNT = false
with_object FIRST = false
with_object LAST = false
with_object NEXT = true
with_object PREVIOUS = true
with_object RANK = true
with_object (UNRANK r) = false

-- what a table of questions has to ask, so that a call that passes it can be carried out
pub record Asks (refuse : Refuse) (l : List Bytes) (len : ℕ) : Type 0 where
  pub sized : (c : Call) (size : ℕ) (holds : Bool) → with_buffer c ≡ true → refuse c size holds ≡ none → size ≡ len
  pub reads : (c : Call) (size : ℕ) (holds : Bool) → with_object c ≡ true → refuse c size holds ≡ none → holds ≡ true
  pub some_first : (size : ℕ) (holds : Bool) → refuse FIRST size holds ≡ none → 0 < length l
  pub some-last : (size : ℕ) (holds : Bool) → refuse LAST size holds ≡ none → 0 < length l
  pub below : (r size : ℕ) (holds : Bool) → refuse (UNRANK r) size holds ≡ none → r < length l
  pub alike : (size : ℕ) (holds : Bool) → refuse NEXT size holds ≡ refuse PREVIOUS size holds

-- the call's questions, and where all pass what it does
unfoldable pub answering : Refuse → (Bytes → Bool) → (Bytes → Bytes → Bool) → List Bytes → Call → Bytes → Said
answering refuse object lt l c x = judged (refuse c (length x) (object x)) x (act c lt l x)

-- the invariant: where the marker stands nowhere the first bytes hold no object, and where it stands somewhere they have an object's length
abbrev Sits : (Bytes → Bool) → List Bytes → ℕ → Bytes → Mark → Type 0
Sits object l len s none = object s ≡ false
Sits object l len s (some p) = (p < length l) × (length s ≡ len)

-- one call said as the marker says, and the invariant holds after it
record Agrees (object : Bytes → Bool) (l : List Bytes) (len : ℕ) (s : Bytes) (said : Said) (a : Answer × Mark) : Type 0 where
  says : said ≡ (a.0, shown l s a.1)
  sits : Sits object l len s a.1

module _ {refuse : Refuse} {object : Bytes → Bool} {lt : Bytes → Bytes → Bool} {l : List Bytes} {len : ℕ} (lawful : Lawful object lt l len) (asks : Asks refuse l len) (s : Bytes) where
  -- the bytes shown have the first bytes' length, and hold an object where the marker stands at one
  size : (m : Mark) → Sits object l len s m → length (shown l s m) ≡ length s
  unfolding shown
  size none at = refl
  size (some p) at = lawful.long (get_or l p s) (object_at lawful.lists p s at.0) ∙ sym at.1

  holds : (m : Mark) → Sits object l len s m → object (shown l s m) ≡ stands m
  unfolding shown stands
  holds none at = at
  holds (some p) at = object_at lawful.lists p s at.0

  -- FIRST, LAST and UNRANK write the object at a place
  write : (m : Mark) (p : ℕ) → p < length l → length s ≡ len → Agrees object l len s (WRITTEN, get_or l p (shown l s m)) (WRITTEN, some p)
  unfolding shown
  write m p h z = record { says = rw (get_d_default l p (shown l s m) s h); sits = (h, z) }

  -- NEXT from place p
  forth : (p : ℕ) → (p < length l) × (length s ≡ len) → (b : Bool) → ltb (suc p) (length l) ≡ b
      → Agrees object l len s (stepped (get_or l p s) (get_elem? l (suc p))) (cond b (STEPPED, some (suc p)) (END, (some p)))
  unfolding stepped shown
  forth p at true e = let h : suc p < length l = ltb-true (suc p) (length l) e in record { says = rw (get_elem_some l (suc p) s h); sits = (h, at.1) }
  forth p at false e = record { says = rw (get_elem_none l (suc p) (ltb-false (suc p) (length l) e)); sits = at }

  -- a call whose questions have passed
  passed : (c : Call) (m : Mark) → Sits object l len s m → refuse c (length s) (stands m) ≡ none → Agrees object l len s (act c lt l (shown l s m)) (move c l m)
  unfolding act move shown stands onward backward stepped one_on one_back rank_at
  passed COUNT m at e = record { says = refl; sits = at }
  passed FIRST m at e = write m 0 (asks.some_first (length s) (stands m) e) (asks.sized FIRST (length s) (stands m) refl e)
  passed LAST m at e = write m (length l - 1) (omega (arith, asks.some-last (length s) (stands m) e)) (asks.sized LAST (length s) (stands m) refl e)
  passed NEXT none at e = absurd (false≢true (asks.reads NEXT (length s) false refl e))
  passed NEXT (some p) at e = rw (place_at lawful.lists p s at.0) (forth p at (ltb (suc p) (length l)) refl)
  passed PREVIOUS none at e = absurd (false≢true (asks.reads PREVIOUS (length s) false refl e))
  passed PREVIOUS (some zero) at e = rw (place_at lawful.lists zero s at.0) (record { says = refl; sits = at })
  passed PREVIOUS (some (suc p)) at e =
      let h : p < length l = omega arith in
      rw (place_at lawful.lists (suc p) s at.0, get_elem_some l p s h) (record { says = refl; sits = (h, at.1) })
  passed RANK none at e = absurd (false≢true (asks.reads RANK (length s) false refl e))
  passed RANK (some p) at e = record { says = rw (rank_at_lem lawful.lists p s at.0); sits = at }
  passed (UNRANK r) m at e = write m r (asks.below r (length s) (stands m) e) (asks.sized (UNRANK r) (length s) (stands m) refl e)

  -- one call
  step : (c : Call) (m : Mark) → Sits object l len s m
      → Agrees object l len s (answering refuse object lt l c (shown l s m)) (marked (refuse c (length s) (stands m)) m (move c l m))
  unfolding answering judged marked
  step c m at = rw (size m at, holds m at) (go (refuse c (length s) (stands m)) refl)
    where
      go : (o : Option ℕ) → refuse c (length s) (stands m) ≡ o → Agrees object l len s (judged o (shown l s m) (act c lt l (shown l s m))) (marked o m (move c l m))
      go none e = passed c m at e
      go (some q) e = record { says = refl; sits = at }

  -- a list of calls, from wherever the marker stands
  follow : (m : Mark) → Sits object l len s m → (cs : List Call) → responses (answering refuse object lt l) (shown l s m) cs ≡ run_from refuse l s m cs
  unfolding responses run_from
  follow m at [] = refl
  follow m at (c ∷ cs) =
      let a = marked (refuse c (length s) (stands m)) m (move c l m) in
      let k = step c m at in
      rw (k.says, follow a.1 k.sits cs)

  -- the invariant holds before the first call, and the bytes are the first ones
  begins : Sits object l len s (start l s) × (shown l s (start l s) ≡ s)
  begins = go (place_of l s) (place-tells l s)
    where
      go : (m : Mark) → Tells l s m → Sits object l len s m × (shown l s m ≡ s)
      go none absent = (not-object lawful.lists s absent, unfold shown in refl)
      go (some p) f = ((f.inside, lawful.long s (rw (f.there s) at (object_at lawful.lists p s f.inside))), unfold shown in f.there s)

  pub shows_start : shown l s (start l s) ≡ s
  shows_start = begins.1

  pub stands-start : stands (start l s) ≡ object s
  stands-start = sym (holds (start l s) begins.0) ∙ ap object shows_start

  -- "Demand 3 is a single claim about the whole list of calls, of any length"
  pub calls_are_the_marker : (cs : List Call) → responses (answering refuse object lt l) s cs ≡ marker_run refuse l s cs
  unfolding marker_run
  calls_are_the_marker cs = rw shows_start at (follow (start l s) begins.0 cs)
