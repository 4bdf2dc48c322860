-- The questions as the code puts them: what a verdict says of the questions, and the family's questions one by one.
-- Assumes nothing.
use mathlib.Core.Path.{◌≡◌, refl, sym, ◌∙◌, ap}
use mathlib.Core.Bool.{Bool, true, false, cond, false≢true}
use mathlib.Core.Option.{Option, none, some}
use mathlib.Core.List.{[], ◌∷◌, append_assoc}
use Rattle.std.specs.Prelude.{Result, Ok, Err}
use Prim.Native.Nat.{ℕ, ◌<◌, ◌^◌}
use lib.Dec.{ltb}
use borrow.Author.Tests.{lt-ltb, ltb-true}
use Rattle.listings.specs.Calls.{Call, FIRST, LAST, NEXT, PREVIOUS, RANK, UNRANK, first_no}
use Rattle.listings.proofs.Demand.{Asks}
use Rattle.families.specs.declared.Family.{Family}
use Rattle.families.specs.declared.refusal.Refusal.{Refusal}
use Rattle.families.specs.Table.{Lent}
use Rattle.families.specs.Families.{asked_of_all, allowed, object_length, listing, count_of}
use Rattle.families.specs.Questions.{asked, is_in, put, rank_given, opening, closing_for, refusal}
use Rattle.families.specs.Answers.{verdict_as}
use Rattle.families.proofs.QuestionLaws.{after_pass, after_no, left_passes, right_passes, is-put, closing_passes}
use Rattle.families.proofs.QuestionLaws as laws
use Rattle.families.proofs.FamilyFacts.{allowed-asked, asked-allowed}

-- what the code's verdict says
pub verdict : {v w : Result (Unit {0}) Refusal} {o : Option ℕ} → verdict_as v ≡ o → v ≡ w → o ≡ verdict_as w
verdict e told = sym e ∙ ap verdict_as told

-- where the code refuses by question 5, that is the question missed
pub misses_five : (t v : Bool) {q : Refusal} → cond t (Ok v) (Err Refusal.TooMany) ≡ Err q → (t ≡ false) × (q ≡ Refusal.TooMany)
misses_five true v e = absurd (cc)
misses_five false v e = (refl, cc)

module _ (f : Family) (b : Lent) where
  -- a question put to all that is missed is missed by every call
  pub refused_early : (c : Call) (size : ℕ) (holds : Bool) {q : ℕ} → first_no (asked_of_all f b) ≡ some q → refusal c f b size holds ≡ some q
  unfolding refusal opening
  refused_early c size holds e =
      after_no (opening c f b) (closing_for c (count_of f b) (object_length f b) size holds) (after_no (asked_of_all f b) (put c 4 (ltb 0 (count_of f b)) ∷ []) e)

  -- of an allowed family the other questions are left
  pub others : (c : Call) (size : ℕ) (holds : Bool) → allowed f b ≡ true → refusal c f b size holds ≡ first_no (put c 4 (ltb 0 (count_of f b)) ∷ closing_for c (count_of f b) (object_length f b) size holds)
  unfolding refusal opening
  others c size holds a =
      let rest = closing_for c (count_of f b) (object_length f b) size holds in
      ap first_no (append_assoc (asked_of_all f b) (put c 4 (ltb 0 (count_of f b)) ∷ []) rest) ∙ after_pass (asked_of_all f b) (put c 4 (ltb 0 (count_of f b)) ∷ rest) (asked-allowed f b a)

  -- a family is allowed where the questions about it pass
  pub opened : (c : Call) → first_no (opening c f b) ≡ none → allowed f b ≡ true
  unfolding opening
  opened c e = allowed-asked f b (left_passes (asked_of_all f b) (put c 4 (ltb 0 (count_of f b)) ∷ []) e)

  -- and has an object, if it is asked for one
  pub some-object : (c : Call) → is_in 4 (asked c) ≡ true → first_no (opening c f b) ≡ none → 0 < count_of f b
  unfolding opening put
  some-object c put4 e =
      let fourth = laws.passed 4 (put c 4 (ltb 0 (count_of f b)) ∷ []) (right_passes (asked_of_all f b) (put c 4 (ltb 0 (count_of f b)) ∷ []) e) in
      ltb-true 0 (count_of f b) (sym (is-put c 4 (ltb 0 (count_of f b)) put4) ∙ fourth)

  -- NEXT is asked of it what PREVIOUS is
  same : opening NEXT f b ≡ opening PREVIOUS f b
  unfolding opening put asked is_in
  same = refl

  -- all that demand 3 needs is asked
  pub asks_enough : Asks (λ c. refusal c f b) (listing f b) (object_length f b)
  unfolding refusal count_of
  asks_enough = laws.asks_enough (λ c. opening c f b) (listing f b) (object_length f b) some-object same

  pub admitted : (c : Call) (size : ℕ) (holds : Bool) → refusal c f b size holds ≡ none → allowed f b ≡ true
  unfolding refusal
  admitted c size holds e = opened c (left_passes (opening c f b) (closing_for c (count_of f b) (object_length f b) size holds) e)

  -- what RANK, UNRANK and COUNT have been asked when they pass
  pub fits-asked : (c : Call) (size : ℕ) (holds : Bool) → is_in 5 (asked c) ≡ true → refusal c f b size holds ≡ none → count_of f b < 2 ^ 64
  unfolding refusal
  fits-asked c size holds put5 e =
      laws.fits-asked c (count_of f b) (object_length f b) size holds (right_passes (opening c f b) (closing_for c (count_of f b) (object_length f b) size holds) e) put5

  -- a call that is asked whether there is an object is asked of the family what FIRST is
  pub opens_alike : (c : Call) → is_in 4 (asked c) ≡ true → opening c f b ≡ opening FIRST f b
  unfolding opening put asked is_in
  opens_alike c put4 = rw put4

  pub opening-asked : (c : Call) (size : ℕ) (holds : Bool) → is_in 4 (asked c) ≡ true → refusal c f b size holds ≡ none → first_no (opening FIRST f b) ≡ none
  unfolding refusal
  opening-asked c size holds put4 e =
      sym (ap first_no (opens_alike c put4)) ∙ left_passes (opening c f b) (closing_for c (count_of f b) (object_length f b) size holds) e

  -- which calls pass: where the questions about the family do, and those that are put of the count, the buffer, the object and the rank
  pub passes : (c : Call) (size : ℕ) (holds : Bool) → is_in 4 (asked c) ≡ true → first_no (opening FIRST f b) ≡ none → (is_in 5 (asked c) ≡ true → count_of f b < 2 ^ 64) → size ≡ object_length f b
      → (is_in 7 (asked c) ≡ true → holds ≡ true) → (is_in 8 (asked c) ≡ true → rank_given c < count_of f b) → refusal c f b size holds ≡ none
  unfolding refusal
  passes c size holds put4 e fits sized object lower =
      after_pass (opening c f b) (closing_for c (count_of f b) (object_length f b) size holds) (ap first_no (opens_alike c put4) ∙ e)
      ∙ closing_passes c (count_of f b) (object_length f b) size holds fits sized object lower

  -- call by call

  pub first_passes : (size : ℕ) (holds : Bool) → first_no (opening FIRST f b) ≡ none → size ≡ object_length f b → refusal FIRST f b size holds ≡ none
  unfolding asked is_in
  first_passes size holds e h = passes FIRST size holds refl e (λ w. absurd (false≢true w)) h (λ w. absurd (false≢true w)) (λ w. absurd (false≢true w))

  pub last_passes : (size : ℕ) (holds : Bool) → first_no (opening FIRST f b) ≡ none → size ≡ object_length f b → refusal LAST f b size holds ≡ none
  unfolding asked is_in
  last_passes size holds e h = passes LAST size holds refl e (λ w. absurd (false≢true w)) h (λ w. absurd (false≢true w)) (λ w. absurd (false≢true w))

  pub next_passes : (size : ℕ) → first_no (opening FIRST f b) ≡ none → size ≡ object_length f b → refusal NEXT f b size true ≡ none
  unfolding asked is_in
  next_passes size e h = passes NEXT size true refl e (λ w. absurd (false≢true w)) h (λ w. refl) (λ w. absurd (false≢true w))

  pub previous_passes : (size : ℕ) → first_no (opening FIRST f b) ≡ none → size ≡ object_length f b → refusal PREVIOUS f b size true ≡ none
  previous_passes size e h = sym (asks_enough.alike size true) ∙ next_passes size e h

  pub rank_passes : (size : ℕ) → first_no (opening FIRST f b) ≡ none → count_of f b < 2 ^ 64 → size ≡ object_length f b → refusal RANK f b size true ≡ none
  unfolding asked is_in
  rank_passes size e fits h = passes RANK size true refl e (λ w. fits) h (λ w. refl) (λ w. absurd (false≢true w))

  pub unrank_passes : (r size : ℕ) (holds : Bool) → first_no (opening FIRST f b) ≡ none → count_of f b < 2 ^ 64 → size ≡ object_length f b → r < count_of f b → refusal (UNRANK r) f b size holds ≡ none
  unfolding asked is_in rank_given
  unrank_passes r size holds e fits h lt = passes (UNRANK r) size holds refl e (λ w. fits) h (λ w. absurd (false≢true w)) (λ w. lt)

  -- where the count fits, a step is asked what RANK is

  pub next_as_rank : (size : ℕ) (holds : Bool) → count_of f b < 2 ^ 64 → refusal RANK f b size holds ≡ refusal NEXT f b size holds
  unfolding refusal opening closing_for put asked is_in
  next_as_rank size holds fits = rw (lt-ltb (count_of f b) (2 ^ 64) fits)

  pub previous_as_rank : (size : ℕ) (holds : Bool) → count_of f b < 2 ^ 64 → refusal RANK f b size holds ≡ refusal PREVIOUS f b size holds
  previous_as_rank size holds fits = next_as_rank size holds fits ∙ asks_enough.alike size holds
