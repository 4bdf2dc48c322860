-- What a call knows once all its questions have passed, for `#[tactic(using(..))]` on the calls.
-- Assumes nothing.
use mathlib.Core.Path.{◌≡◌, refl}
use mathlib.Core.Bool.{Bool, true}
use mathlib.Core.Option.{none, some}
use Prim.Native.Nat.{ℕ, ◌<◌, ◌^◌}
use lib.ListN.{length}
use Rattle.listings.specs.Bytes.{Bytes}
use Rattle.listings.specs.Calls.{Call, FIRST, LAST, NEXT, PREVIOUS, RANK, UNRANK, REFUSED, RANKED, Said, first_no, act}
use Rattle.families.specs.declared.Family.{Family}
use Rattle.families.specs.Table.{Lent}
use Rattle.families.specs.Families.{asked_of_all, object_length, is_object, count_of, rank_of}
use Rattle.families.specs.Questions.{asked, is_in, refusal}
use Rattle.families.specs.Calls.{respond}
use Rattle.families.proofs.Verdicts.{refused_early, asks_enough, fits-asked}
use Rattle.families.proofs.Responses.{refused, acts}

-- every call is refused where a question is missed that is put to all
pub refused_at_once : (f : Family) (b : Lent) (x : Bytes) (c : Call) {q : ℕ} → first_no (asked_of_all f b) ≡ some q → ◌≡◌ {A = Said} (REFUSED q, x) (respond c f b x)
refused_at_once f b x c e = refused f b x c (refused_early f b c (length x) (is_object f b x) e)

-- RANK tells the rank by the order
pub rank_said : (f : Family) (b : Lent) (x : Bytes) → refusal RANK f b (length x) (is_object f b x) ≡ none → ◌≡◌ {A = Said} (RANKED (rank_of f b x), x) (respond RANK f b x)
unfolding act rank_of
rank_said f b x pass = acts f b x RANK pass

module _ (f : Family) (b : Lent) (size : ℕ) (holds : Bool) where
  -- FIRST and LAST: the family has an object, of the buffer's length

  pub first_some : refusal FIRST f b size holds ≡ none → 0 < count_of f b
  unfolding count_of
  first_some pass = (asks_enough f b).some_first size holds pass

  pub last_some : refusal LAST f b size holds ≡ none → 0 < count_of f b
  unfolding count_of
  last_some pass = (asks_enough f b).some-last size holds pass

  pub first_long : refusal FIRST f b size holds ≡ none → size ≡ object_length f b
  first_long pass = (asks_enough f b).sized FIRST size holds refl pass

  pub last_long : refusal LAST f b size holds ≡ none → size ≡ object_length f b
  last_long pass = (asks_enough f b).sized LAST size holds refl pass

  -- NEXT, PREVIOUS and RANK: the buffer holds an object

  pub next_holds : refusal NEXT f b size holds ≡ none → holds ≡ true
  next_holds pass = (asks_enough f b).reads NEXT size holds refl pass

  pub previous_holds : refusal PREVIOUS f b size holds ≡ none → holds ≡ true
  previous_holds pass = (asks_enough f b).reads PREVIOUS size holds refl pass

  pub rank_holds : refusal RANK f b size holds ≡ none → holds ≡ true
  rank_holds pass = (asks_enough f b).reads RANK size holds refl pass

  -- RANK and UNRANK: the count fits, and UNRANK's rank is below it

  pub rank_fits : refusal RANK f b size holds ≡ none → count_of f b < 2 ^ 64
  unfolding asked is_in
  rank_fits pass = fits-asked f b RANK size holds refl pass

  module _ (r : ℕ) (pass : refusal (UNRANK r) f b size holds ≡ none) where
    pub unrank_fits : count_of f b < 2 ^ 64
    unfolding asked is_in
    unrank_fits = fits-asked f b (UNRANK r) size holds refl pass

    pub unrank_long : size ≡ object_length f b
    unrank_long = (asks_enough f b).sized (UNRANK r) size holds refl pass

    pub unrank_below : r < count_of f b
    unfolding count_of
    unrank_below = (asks_enough f b).below r size holds pass
