-- What a call answers and leaves, by what its questions say.
-- Assumes nothing.
use mathlib.Core.Path.{◌≡◌, refl, sym, ◌∙◌}
use mathlib.Core.Option.{none, some, some-injective}
use mathlib.Core.List.{List, [], ◌∷◌}
use Prim.Native.Nat.{ℕ, ◌-◌, ◌≤◌, ◌<◌, ◌^◌}
use native.Mathlib.Omega.{arith}
use lib.Dec.{ltb}
use lib.ListN.{length, get_or}
use borrow.Author.Tests.{lt-ltb, le-ltb}
use Rattle.listings.specs.Bytes.{Bytes}
use Rattle.listings.specs.Places.{At, First, Last}
use Rattle.listings.specs.Calls.{Call, COUNT, FIRST, LAST, UNRANK, Said, REFUSED, COUNTED, WRITTEN, first_no, judged, act}
use Rattle.listings.proofs.PlaceRules.{at_below}
use Rattle.listings.proofs.Standing.{get_elem_some}
use Rattle.families.specs.declared.Family.{Family}
use Rattle.families.specs.Table.{Lent}
use Rattle.families.specs.Families.{always, asked_of_all, object_length, is_object, comes_before, listing, count_of}
use Rattle.families.specs.Questions.{asked, is_in, put, rank_given, opening, closing_for, refusal}
use Rattle.families.specs.Calls.{respond}
use Rattle.families.proofs.QuestionLaws.{past, stop, none_left, after_pass}

-- what stands at a place is what is read there
at_is : (l : List Bytes) (r : ℕ) {y : Bytes} → At l y r → (x : Bytes) → get_or l r x ≡ y
at_is l r {y} h x = some-injective (get_or l r x) y (sym (get_elem_some l r x (at_below l r h)) ∙ h)

module _ (f : Family) (b : Lent) (x : Bytes) where
  -- a refusal is its number, and no byte changes
  pub refused : (c : Call) {q : ℕ} → refusal c f b (length x) (is_object f b x) ≡ some q → ◌≡◌ {A = Said} (REFUSED q, x) (respond c f b x)
  unfolding respond judged
  refused c e = rw e

  -- COUNT's questions

  opens : first_no (asked_of_all f b) ≡ none → first_no (opening COUNT f b) ≡ none
  unfolding opening put asked is_in first_no
  opens e = after_pass (asked_of_all f b) (put COUNT 4 (ltb 0 (count_of f b)) ∷ []) e

  closes : first_no (asked_of_all f b) ≡ none → refusal COUNT f b (length x) (is_object f b x) ≡ first_no (always 5 (ltb (count_of f b) (2 ^ 64)) ∷ [])
  unfolding refusal closing_for put asked is_in first_no rank_given
  closes e = after_pass (opening COUNT f b) (closing_for COUNT (count_of f b) (object_length f b) (length x) (is_object f b x)) (opens e)

  count_passes : first_no (asked_of_all f b) ≡ none → count_of f b < 2 ^ 64 → refusal COUNT f b (length x) (is_object f b x) ≡ none
  count_passes e fits = closes e ∙ past _ _ (lt-ltb (count_of f b) (2 ^ 64) fits) ∙ none_left

  count_too_large : first_no (asked_of_all f b) ≡ none → 2 ^ 64 ≤ count_of f b → refusal COUNT f b (length x) (is_object f b x) ≡ some 5
  count_too_large e large = closes e ∙ stop _ _ (le-ltb (count_of f b) (2 ^ 64) large)

  -- where all questions pass
  module _ (c : Call) (pass : refusal c f b (length x) (is_object f b x) ≡ none) where
    pub acts : act c (comes_before f b) (listing f b) x ≡ respond c f b x
    unfolding respond judged
    acts = rw pass

    -- a call that writes the object of a place
    writes : (r : ℕ) {y : Bytes} → At (listing f b) y r → act c (comes_before f b) (listing f b) x ≡ (WRITTEN, get_or (listing f b) r x) → ◌≡◌ {A = Said} (WRITTEN, y) (respond c f b x)
    writes r h e = rw (← at_is (listing f b) r h x) (sym e ∙ acts)

  pub writes_first : {y : Bytes} → First (listing f b) y → refusal FIRST f b (length x) (is_object f b x) ≡ none → ◌≡◌ {A = Said} (WRITTEN, y) (respond FIRST f b x)
  unfolding act
  writes_first h pass = writes FIRST pass 0 h refl

  pub writes_last : {y : Bytes} → Last (listing f b) y → refusal LAST f b (length x) (is_object f b x) ≡ none → ◌≡◌ {A = Said} (WRITTEN, y) (respond LAST f b x)
  unfolding act
  writes_last h pass =
      let last : length (listing f b) - 1 ≡ h.place = omega (arith, h.final) in
      writes LAST pass h.place h.here (rw last)

  pub writes_ranked : (r : ℕ) {y : Bytes} → At (listing f b) y r → refusal (UNRANK r) f b (length x) (is_object f b x) ≡ none → ◌≡◌ {A = Said} (WRITTEN, y) (respond (UNRANK r) f b x)
  unfolding act
  writes_ranked r h pass = writes (UNRANK r) pass r h refl

  -- COUNT is asked what all calls are, and question 5

  pub count_said : first_no (asked_of_all f b) ≡ none → count_of f b < 2 ^ 64 → ◌≡◌ {A = Said} (COUNTED (count_of f b), x) (respond COUNT f b x)
  unfolding count_of act
  count_said e fits = acts COUNT (count_passes e fits)

  pub count_refused : first_no (asked_of_all f b) ≡ none → 2 ^ 64 ≤ count_of f b → ◌≡◌ {A = Said} (REFUSED 5, x) (respond COUNT f b x)
  count_refused e large = refused COUNT (count_too_large e large)
