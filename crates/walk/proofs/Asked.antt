-- What a step of a walk is asked, after RANK's questions the number kept: when it passes, what was asked then, and the first question missed.
-- Assumes nothing.
use mathlib.Core.Path.{◌≡◌, refl, sym, ◌∙◌}
use mathlib.Core.Bool.{Bool, true, false, cond}
use mathlib.Core.Option.{Option, none, some, some-ne-none}
use mathlib.Core.List.{List, [], ◌∷◌, ◌++◌}
use Prim.Native.Nat.{ℕ, ◌≤◌, ◌<◌, ◌^◌}
use native.Mathlib.Omega.{arith}
use native.Mathlib.Decide.{dec_lt}
use lib.Dec.{ltb, eqb}
use borrow.Author.Tests.{lt-ltb, le-ltb, ltb-true, ne_eqb}
use Rattle.basics.specs.Limits.{longest_object}
use Rattle.listings.specs.Calls.{RANK, Question, first_no}
use Rattle.families.specs.declared.Family.{Family}
use Rattle.families.specs.Table.{Lent}
use Rattle.families.specs.Families.{always, object_length, count_of}
use Rattle.families.specs.Questions.{asked, is_in, put, opening, closing_for, refusal, rank_refusal}
use Rattle.families.proofs.QuestionLaws.{past, stop, none_left, passed, after_pass, after_no, left_passes, right_passes}
use Rattle.families.proofs.FamilyFacts.{short}
use Rattle.families.proofs.Verdicts.{opened, some-object, asks_enough, fits-asked, next_as_rank, previous_as_rank}
use Rattle.walk.specs.declared.Way.{Way}
use Rattle.walk.specs.declared.Way.TheVariants.{Forth, Back}
use Rattle.walk.specs.Walks.{call_of, number_question, step_refusal}

-- a question that is answered by yes, put last, changes nothing
last_yes : (l : List Question) (q : Question) → q.yes? ≡ true → first_no (l ++ (q ∷ [])) ≡ first_no l
last_yes l q e = go (first_no l) refl
  where
    go : (o : Option ℕ) → first_no l ≡ o → first_no (l ++ (q ∷ [])) ≡ first_no l
    go none h = after_pass l (q ∷ []) h ∙ past q [] e ∙ none_left ∙ sym h
    go (some p) h = after_no l (q ∷ []) h ∙ sym h

-- a no before others is the first
same_no : (t : Bool) (p : ℕ) (later : Option ℕ) {q : ℕ} → cond t none (some p) ≡ some q → cond t later (some p) ≡ some q
same_no true p later {q} e = absurd (some-ne-none q (sym e))
same_no false p later e = e

-- questions 5 and 8 of a number

pub both_pass : (r count : ℕ) → rank_refusal r count ≡ none → (r < count) × (count < 2 ^ 64)
unfolding rank_refusal
both_pass r count e =
    let qs = always 5 (ltb count (2 ^ 64)) ∷ always 8 (ltb r count) ∷ [] in
    (ltb-true r count (passed 8 qs e), ltb-true count (2 ^ 64) (passed 5 qs e))

not_both : (r count : ℕ) {q : ℕ} → rank_refusal r count ≡ some q → r < count → count < 2 ^ 64 → ⊥
unfolding rank_refusal
not_both r count {q} e low fits =
    some-ne-none q
    (sym e ∙ past (always 5 (ltb count (2 ^ 64))) (always 8 (ltb r count) ∷ []) (lt-ltb count (2 ^ 64) fits) ∙ past (always 8 (ltb r count)) [] (lt-ltb r count low) ∙ none_left)

module _ (f : Family) (b : Lent) (size : ℕ) (holds : Bool) where
  -- RANK's questions come first

  pub rank_missed : (r : ℕ) {q : ℕ} → refusal RANK f b size holds ≡ some q → step_refusal f b size holds r ≡ some q
  unfolding step_refusal refusal
  rank_missed r e =
      after_no (opening RANK f b ++ closing_for RANK (count_of f b) (object_length f b) size holds) (number_question f b r ∷ []) e

  pub number_passes : (r : ℕ) → r < count_of f b → step_refusal f b size holds r ≡ refusal RANK f b size holds
  unfolding step_refusal refusal number_question
  number_passes r low =
      last_yes (opening RANK f b ++ closing_for RANK (count_of f b) (object_length f b) size holds) (number_question f b r) (lt-ltb r (count_of f b) low)

  pub number_missed : (r : ℕ) → refusal RANK f b size holds ≡ none → count_of f b ≤ r → step_refusal f b size holds r ≡ some 8
  unfolding step_refusal refusal number_question
  number_missed r e high =
      after_pass (opening RANK f b ++ closing_for RANK (count_of f b) (object_length f b) size holds) (number_question f b r ∷ []) e
      ∙ stop (number_question f b r) [] (le-ltb r (count_of f b) high)

  -- where the number misses 5 or 8, and RANK none, it is 8
  pub missed_first : (r : ℕ) {q : ℕ} → rank_refusal r (count_of f b) ≡ some q → refusal RANK f b size holds ≡ none → step_refusal f b size holds r ≡ some 8
  unfolding asked is_in
  missed_first r e pass =
      elim (dec_lt r (count_of f b)) [
        | yes h ↦ absurd (not_both r (count_of f b) e h (fits-asked f b RANK size holds refl pass))
        | no h ↦ number_missed r pass (omega arith)
      ]

  -- where the number is below a count that fits, the questions are those of the call

  pub as_the_call : (a : Way) (r : ℕ) → r < count_of f b → count_of f b < 2 ^ 64 → step_refusal f b size holds r ≡ refusal (call_of a) f b size holds
  unfolding call_of
  as_the_call Forth r low fits = number_passes r low ∙ next_as_rank f b size holds fits
  as_the_call Back r low fits = number_passes r low ∙ previous_as_rank f b size holds fits

  -- what a step that passes was asked
  module _ (r : ℕ) (pass : step_refusal f b size holds r ≡ none) where
    pub rank_asked : refusal RANK f b size holds ≡ none
    unfolding step_refusal refusal
    rank_asked =
        left_passes (opening RANK f b ++ closing_for RANK (count_of f b) (object_length f b) size holds) (number_question f b r ∷ []) pass

    pub number_below : r < count_of f b
    unfolding step_refusal number_question
    number_below =
        ltb-true r (count_of f b)
        (passed 8 (number_question f b r ∷ [])
        (right_passes (opening RANK f b ++ closing_for RANK (count_of f b) (object_length f b) size holds) (number_question f b r ∷ []) pass))

    pub count_fits : count_of f b < 2 ^ 64
    unfolding asked is_in
    count_fits = fits-asked f b RANK size holds refl rank_asked

    pub sized : size ≡ object_length f b
    sized = (asks_enough f b).sized RANK size holds refl rank_asked

    pub object_held : holds ≡ true
    object_held = (asks_enough f b).reads RANK size holds refl rank_asked

    pub call_passes : (a : Way) → refusal (call_of a) f b size holds ≡ none
    call_passes a = sym (as_the_call a r number_below count_fits) ∙ pass

  -- on more bytes than any object has, a question up to 6 is missed

  pub family_missed : {q : ℕ} → first_no (opening RANK f b) ≡ some q → refusal RANK f b size holds ≡ some q
  unfolding refusal
  family_missed e = after_no (opening RANK f b) (closing_for RANK (count_of f b) (object_length f b) size holds) e

  module _ (opens : first_no (opening RANK f b) ≡ none) where
    some-there : 0 < count_of f b
    unfolding asked is_in
    some-there = some-object f b RANK refl opens

    then : {d : Option ℕ} → first_no (closing_for RANK (count_of f b) (object_length f b) size holds) ≡ d → refusal RANK f b size holds ≡ d
    unfolding refusal
    then e = after_pass (opening RANK f b) (closing_for RANK (count_of f b) (object_length f b) size holds) opens ∙ e

    pub size_missed : rank_refusal 0 (count_of f b) ≡ none → longest_object < size → refusal RANK f b size holds ≡ some 6
    unfolding closing_for put asked is_in first_no
    size_missed e large =
        let fits = (both_pass 0 (count_of f b) e).1 in
        let other : eqb size (object_length f b) ≡ false = ne_eqb size (object_length f b) (λ s. omega (arith, short f b (opened f b RANK opens), s)) in
        then (rw (lt-ltb (count_of f b) (2 ^ 64) fits, other))

    pub count_missed : {q : ℕ} → rank_refusal 0 (count_of f b) ≡ some q → refusal RANK f b size holds ≡ some q
    unfolding rank_refusal closing_for put asked is_in first_no
    count_missed e = then (same_no (ltb (count_of f b) (2 ^ 64)) 5 _ (rw (lt-ltb 0 (count_of f b) some-there) at e))
