-- What a check's answers say, each as the code comes to it: a question that is missed, and past the questions the first wrong place, or none.
-- Assumes nothing.
use mathlib.Core.Path.{◌≡◌, refl, sym, ◌∙◌, ap}
use mathlib.Core.Bool.{true, false}
use mathlib.Core.Option.{Option, none, some, some-ne-none}
use mathlib.Core.List.{List, [], ◌∷◌}
use Prim.Native.Nat.{ℕ, ◌*◌}
use native.Mathlib.Omega.{arith}
use lib.Dec.{eqb, ltb}
use lib.ListN.{length}
use Rattle.listings.specs.Bytes.{Bytes}
use Rattle.listings.specs.Places.{First}
use Rattle.listings.specs.Calls.{FIRST, REFUSED, MEASURED, Said, Question, first_no}
use Rattle.families.specs.declared.Family.{Family}
use Rattle.families.specs.Table.{Lent}
use Rattle.families.specs.Families.{always, asked_of_all, object_length, is_object, listing, count_of}
use Rattle.families.specs.Questions.{put, opening, closing_for, refusal}
use Rattle.families.specs.Calls.{respond, measured, unless_refused}
use Rattle.families.proofs.QuestionLaws.{past, stop, none_left, after_pass, after_no}
use Rattle.families.proofs.Verdicts.{first_passes}
use Rattle.families.proofs.Going.{length-known, object-here, long-here}
use Rattle.families.proofs.Answered.{missed_where_refused, opens_for}
use Rattle.std.specs.Prelude.{Ok, Err}
use Rattle.families.specs.declared.refusal.Refusal.{Refusal}
use Rattle.families.specs.Answers.{number_of}
use Rattle.checker.specs.declared.CheckError.{CheckError}
use Rattle.checker.specs.Checking.{cut_into, entries_of, check_refusal, Says}
use Rattle.checker.specs.Inner.Differences.{first_wrong}
use Rattle.checker.proofs.FirstWrong.{none_wrong, some_wrong}

measured_refused : (o : Option ℕ) (m : ℕ) {q : ℕ} → REFUSED q ≡ unless_refused o (MEASURED m) → o ≡ some q
unfolding unless_refused
measured_refused none m e = let z : ◌≡◌ {A = ℕ} 0 1 = cc in absurd (omega arith)
measured_refused (some p) m e = cc

-- question 12 alone, for m entries of so many bytes, in size bytes
abbrev pub twelve : ℕ → ℕ → ℕ → List Question
twelve m long size = always 12 (eqb size (m * long)) ∷ []

-- the questions about the family come first, and 12 behind them
module _ (f : Family) (b : Lent) (m size : ℕ) where
  pub family_missed : {q : ℕ} → first_no (opening FIRST f b) ≡ some q → check_refusal f b m size ≡ some q
  unfolding check_refusal
  family_missed e = after_no (opening FIRST f b) (twelve m (object_length f b) size) e

  pub family-passed : first_no (opening FIRST f b) ≡ none → check_refusal f b m size ≡ first_no (twelve m (object_length f b) size)
  unfolding check_refusal
  family-passed e = after_pass (opening FIRST f b) (twelve m (object_length f b) size) e

module _ (f : Family) (b : Lent) (m : ℕ) (s : Bytes) where
  -- a question about the family that is missed is missed by the check
  refused_so : (q : Refusal) → first_no (opening FIRST f b) ≡ some (number_of q) → Says f b m s (Err (CheckError.Refused q))
  unfolding Says
  refused_so q e = family_missed f b m (length s) e

  -- the length of an object was refused
  pub no_length : (q : Refusal) → REFUSED (number_of q) ≡ measured f b → Says f b m s (Err (CheckError.Refused q))
  unfolding measured opening
  no_length q e = refused_so q (after_no (asked_of_all f b) (put FIRST 4 (ltb 0 (count_of f b)) ∷ []) (measured_refused (first_no (asked_of_all f b)) (object_length f b) e))

  -- FIRST was refused, on a buffer of an object's length
  pub no_first : (x : Bytes) (q : Refusal) {y : Bytes} → MEASURED (length x) ≡ measured f b → ◌≡◌ {A = Said} (REFUSED (number_of q), y) (respond FIRST f b x) → Says f b m s (Err (CheckError.Refused q))
  unfolding refusal
  no_first x q told e = go (first_no (opening FIRST f b)) refl
    where
      missed : refusal FIRST f b (length x) (is_object f b x) ≡ some (number_of q)
      missed = (missed_where_refused f b FIRST x (sym e)).first

      go : (o : Option ℕ) → first_no (opening FIRST f b) ≡ o → Says f b m s (Err (CheckError.Refused q))
      go none pass = absurd (some-ne-none (number_of q) (sym missed ∙ first_passes f b (length x) (is_object f b x) pass (length-known f b told).long))
      go (some p) first =
          let all = after_no (opening FIRST f b) (closing_for FIRST (count_of f b) (object_length f b) (length x) (is_object f b x)) first in
          refused_so q (first ∙ sym all ∙ missed)

  -- the first object stands in the buffer, so the questions about the family have passed
  module _ {x : Bytes} (first : First (listing f b) x) where
    asks_twelve : check_refusal f b m (length s) ≡ first_no (twelve m (length x) (length s))
    asks_twelve =
        family-passed f b m (length s) (opens_for f b x (object-here f b 0 first))
        ∙ ap (λ (long : ℕ). first_no (twelve m long (length s))) (sym (long-here f b 0 first))

    pub no_product : eqb (length s) (m * length x) ≡ false → Says f b m s (Err CheckError.Entries)
    unfolding Says
    no_product e = asks_twelve ∙ stop (always 12 (eqb (length s) (m * length x))) [] e

    module _ (product : eqb (length s) (m * length x) ≡ true) where
      passes : check_refusal f b m (length s) ≡ none
      passes = asks_twelve ∙ past (always 12 (eqb (length s) (m * length x))) [] product ∙ none_left

      -- the entries, as the code cuts them
      same_entries : cut_into m (length x) s ≡ entries_of f b m s
      unfolding entries_of
      same_entries = ap (λ (long : ℕ). cut_into m long s) (long-here f b 0 first)

      -- what the loop has found

      pub accepted : {o : Option ℕ} {u : Unit {0}} → o ≡ none → o ≡ first_wrong (listing f b) (cut_into m (length x) s) → Says f b m s (Ok u)
      unfolding Says
      accepted found e = (passes, sym same_entries ∙ none_wrong (listing f b) (cut_into m (length x) s) (sym e ∙ found))

      pub wrong : {o : Option ℕ} {p : ℕ} → o ≡ some p → o ≡ first_wrong (listing f b) (cut_into m (length x) s) → Says f b m s (Err (CheckError.Wrong p))
      unfolding Says
      wrong {p = p} found e = (passes, rw (← same_entries) (some_wrong (listing f b) (cut_into m (length x) s) p (sym e ∙ found)).wrong)
