-- Going through a family's listing by its calls: an object's length, where FIRST starts, what NEXT does at each place, what COUNT's answer tells.
-- Assumes nothing.
use mathlib.Core.Path.{◌≡◌, refl, sym, ◌∙◌, ap}
use mathlib.Core.Bool.{true}
use mathlib.Core.Option.{Option, none, some, none-ne-some}
use mathlib.Core.List.{List, [], ◌∷◌}
use Prim.Native.Nat.{ℕ, zero, suc, ◌≤◌, ◌<◌}
use native.Mathlib.Decide.{dec_lt}
use native.Mathlib.Omega.{arith}
use lib.Dec.{ltb}
use lib.ListN.{length, get_elem?}
use borrow.Author.Tests.{lt-ltb}
use Rattle.basics.specs.Limits.{longest_object}
use Rattle.std.specs.Prelude.{Result, Ok, Err}
use Rattle.listings.specs.declared.Step.{Step}
use Rattle.listings.specs.declared.Step.TheVariants.{Moved, End}
use Rattle.listings.specs.Bytes.{Bytes}
use Rattle.listings.specs.Places.{At, First}
use Rattle.listings.specs.Calls.{COUNT, FIRST, NEXT, Answer, REFUSED, COUNTED, MEASURED, WRITTEN, STEPPED, Said, first_no, judged, onward, stepped, act}
use Rattle.listings.proofs.PlaceRules.{at_member, at_below}
use Rattle.listings.proofs.Standing.{get_elem_some}
use Rattle.listings.proofs.Stepping.{place_here, stepped-some, stepped-none}
use Rattle.listings.proofs.Walks.{passes}
use Rattle.families.specs.declared.Family.{Family}
use Rattle.families.specs.declared.refusal.Refusal.{Refusal}
use Rattle.families.specs.Answers.{stepped_as}
use Rattle.families.specs.Table.{Lent}
use Rattle.families.specs.Families.{asked_of_all, allowed, object_length, is_object, listing, count_of}
use Rattle.families.specs.Questions.{asked, is_in, put, opening, closing_for, refusal}
use Rattle.families.specs.Calls.{respond, measured, unless_refused}
use Rattle.families.proofs.QuestionLaws.{after_pass, first_list_passes}
use Rattle.families.proofs.FamilyFacts.{listed, lawful, object-allowed, allowed-asked, asked-allowed, short}
use Rattle.families.proofs.Verdicts.{opened, admitted, asks_enough, first_passes, next_passes}
use Rattle.families.proofs.Responses.{acts}

-- what an answer tells

measured-some : (o : Option ℕ) {m n : ℕ} → MEASURED n ≡ unless_refused o (MEASURED m) → (o ≡ none) × (n ≡ m)
unfolding unless_refused
measured-some none e = (refl, cc)
measured-some (some q) e = let z : ◌≡◌ {A = ℕ} 0 1 = cc in absurd (omega arith)

refused_by : (o : Option ℕ) (x : Bytes) (n : ℕ) {q : ℕ} {y : Bytes} → ◌≡◌ {A = Said} (REFUSED q, y) (judged o x (COUNTED n, x)) → o ≡ some q
unfolding judged
refused_by none x n e = let a = ap (λ (s : Said). s.0) e in let z : ◌≡◌ {A = ℕ} 0 1 = cc in absurd (omega arith)
refused_by (some p) x n e = let a = ap (λ (s : Said). s.0) e in cc

-- the code's answer to NEXT is another than that it stepped
pub not_moved : (s : Result Step Refusal) → (s ≡ Ok Moved → ⊥) → stepped_as s ≡ STEPPED → ⊥
not_moved (Ok Moved) other e = other refl
not_moved (Ok End) other e = let z : ◌≡◌ {A = ℕ} 0 1 = cc in omega arith
not_moved (Err q) other e = let z : ◌≡◌ {A = ℕ} 0 1 = cc in omega arith

pub not_written : {q : ℕ} → REFUSED q ≡ WRITTEN → ⊥
not_written e = let z : ◌≡◌ {A = ℕ} 0 1 = cc in omega arith

none_below : {A : Type 0} (l : List A) (r : ℕ) → get_elem? l r ≡ none → length l ≤ r
none_below [] r e = omega arith
none_below (a ∷ l) zero e = absurd (none-ne-some a (sym e))
none_below (a ∷ l) (suc r) e = omega (arith, none_below l r e)

pub empty : {A : Type 0} (l : List A) → length l ≤ 0 → l ≡ []
empty [] h = refl
empty (a ∷ l) h = absurd (omega arith)

-- what a told length tells
pub record Told (f : Family) (b : Lent) (n : ℕ) : Type 0 where
  pub admitted : allowed f b ≡ true
  pub long : n ≡ object_length f b
  pub within : n ≤ longest_object

module _ (f : Family) (b : Lent) where
  -- the length of an object

  pub length-told : allowed f b ≡ true → measured f b ≡ MEASURED (object_length f b)
  unfolding measured unless_refused
  length-told a = rw (asked-allowed f b a)

  pub length-known : {n : ℕ} → MEASURED n ≡ measured f b → Told f b n
  unfolding measured
  length-known e =
      let p = measured-some (first_no (asked_of_all f b)) e in
      let a = allowed-asked f b p.0 in
      record { admitted = a; long = p.1; within = omega (arith, short f b a, p.1) }

  pub length-not_refused : {q : ℕ} → allowed f b ≡ true → REFUSED q ≡ measured f b → ⊥
  length-not_refused {q} a e =
      let told : REFUSED q ≡ MEASURED (object_length f b) = e ∙ length-told a in
      let z : ◌≡◌ {A = ℕ} 0 1 = cc in omega arith

  -- what stands in the listing

  pub object-here : (r : ℕ) {x : Bytes} → At (listing f b) x r → is_object f b x ≡ true
  object-here r {x} h = (listed f b).only x (at_member (listing f b) r h)

  pub long-here : (r : ℕ) {x : Bytes} → At (listing f b) x r → length x ≡ object_length f b
  long-here r {x} h = (lawful f b).long x (object-here r h)

  -- the questions about the family pass where it is allowed and has an object
  pub opens : allowed f b ≡ true → 0 < count_of f b → first_no (opening FIRST f b) ≡ none
  unfolding opening put asked is_in first_no
  opens a h = after_pass (asked_of_all f b) (put FIRST 4 (ltb 0 (count_of f b)) ∷ []) (asked-allowed f b a) ∙ rw (lt-ltb 0 (count_of f b) h)

  -- NEXT at a place of the listing is the place behind it

  pub next-is : (r : ℕ) {x : Bytes} → At (listing f b) x r → respond NEXT f b x ≡ stepped x (get_elem? (listing f b) (suc r))
  unfolding act onward count_of
  next-is r {x} h =
      let o = object-here r h in
      let some : 0 < count_of f b = omega (arith, at_below (listing f b) r h) in
      let pass = next_passes f b (length x) (opens (object-allowed f b x o) some) (long-here r h) in
      sym (acts f b x NEXT (rw o pass)) ∙ rw (place_here (listed f b) r h)

  pub moves_on : (r : ℕ) {x y : Bytes} → At (listing f b) x r → ◌≡◌ {A = Said} (STEPPED, y) (respond NEXT f b x) → At (listing f b) y (suc r)
  moves_on r {x} h e = stepped-some (get_elem? (listing f b) (suc r)) x (e ∙ next-is r h)

  -- and past the last there is none
  pub stops : (r : ℕ) {a : Answer} {x y : Bytes} → At (listing f b) x r → (a ≡ STEPPED → ⊥) → ◌≡◌ {A = Said} (a, y) (respond NEXT f b x) → suc r ≡ length (listing f b)
  stops r {x = x} h n e =
      omega (arith, at_below (listing f b) r h, none_below (listing f b) (suc r) (stepped-none (get_elem? (listing f b) (suc r)) x n (e ∙ next-is r h)))

  -- FIRST writes the object at place 0

  pub starts : (x : Bytes) {y : Bytes} → ◌≡◌ {A = Said} (WRITTEN, y) (respond FIRST f b x) → First (listing f b) y
  unfolding respond act
  starts x e =
      let (pass, written) = passes (refusal FIRST f b (length x) (is_object f b x)) x (sym e) (λ q w. not_written w) in
      get_elem_some (listing f b) 0 x ((asks_enough f b).some_first (length x) (is_object f b x) pass) ∙ ap {B = Option Bytes} some (ap (λ (s : Said). s.1) written)

  -- or there is none
  pub starts_none : (x : Bytes) {a : Answer} {y : Bytes} → allowed f b ≡ true → length x ≡ object_length f b → (a ≡ WRITTEN → ⊥) → ◌≡◌ {A = Said} (a, y) (respond FIRST f b x) → listing f b ≡ []
  unfolding act count_of
  starts_none x t l n e =
      elim (dec_lt 0 (length (listing f b))) [
        | yes h ↦ absurd (n (ap (λ (s : Said). s.0) (e ∙ sym (acts f b x FIRST (first_passes f b (length x) (is_object f b x) (opens t h) l)))))
        | no h ↦ empty (listing f b) (omega arith)
      ]

  -- COUNT says a number, or is refused by 5, only where the table allows the family

  pub counted-allowed : {n : ℕ} → ◌≡◌ {A = Said} (COUNTED n, []) (respond COUNT f b []) → allowed f b ≡ true
  unfolding respond
  counted-allowed e =
      admitted f b COUNT 0 (is_object f b [])
      (passes (refusal COUNT f b 0 (is_object f b [])) [] (sym e) (λ q w. let z : ◌≡◌ {A = ℕ} 0 1 = cc in omega arith)).0

  pub many_allowed : ◌≡◌ {A = Said} (REFUSED 5, []) (respond COUNT f b []) → allowed f b ≡ true
  unfolding respond act refusal opening asked_of_all put is_in
  many_allowed e =
      opened f b COUNT (first_list_passes 5 (opening COUNT f b) (closing_for COUNT (count_of f b) (object_length f b) 0 (is_object f b [])) refl
      (refused_by (refusal COUNT f b 0 (is_object f b [])) [] (length (listing f b)) e))
