-- Demand 3 about the definitions: for any family, lists, bytes and list of calls, the calls are the marker; and what follows for whole walks.
-- Assumes nothing.
use mathlib.Core.Path.{◌≡◌, refl, sym, ◌∙◌, ap}
use mathlib.Core.Bool.{true, false, false≢true}
use mathlib.Core.Option.{Option, none, some}
use mathlib.Core.List.{List, ◌∷◌, ◌++◌, reverse}
use Prim.Native.Nat.{ℕ, ◌+◌, ◌≤◌, ◌<◌, ◌^◌}
use native.Mathlib.Omega.{arith}
use lib.ListN.{length, get_or, replicate}
use Rattle.listings.specs.Bytes.{Bytes}
use Rattle.listings.specs.Calls.{Call, FIRST, LAST, NEXT, PREVIOUS, RANK, UNRANK, RANKED, WRITTEN, Said, judged, act, first_no}
use Rattle.listings.specs.Runs.{until_end, bytes_of, finally, unranks}
use Rattle.listings.proofs.Demand.{answering}
use Rattle.listings.proofs.Demand as marks
use Rattle.listings.proofs.Walks as walks
use Rattle.listings.proofs.Walks.{passes}
use Rattle.listings.proofs.Standing.{object_at, stands_at_rank}
use Rattle.listings.specs.Places.{count_before}
use Rattle.families.specs.declared.Family.{Family}
use Rattle.families.specs.Table.{Lent}
use Rattle.families.specs.Families.{object_length, is_object, comes_before, listing, count_of, rank_of}
use Rattle.families.specs.Questions.{asked, is_in, opening, refusal}
use Rattle.families.specs.Calls.{respond, run}
use Rattle.families.specs.Marker.{marker}
use Rattle.families.proofs.FamilyFacts.{listed, lawful}
use Rattle.families.proofs.Answered.{opens_for}
use Rattle.families.proofs.Verdicts.{asks_enough, fits-asked, opening-asked, first_passes, last_passes, next_passes, previous_passes, rank_passes, unrank_passes}

module _ (f : Family) (b : Lent) where
  -- "a single claim about the whole list of calls, of any length"
  pub calls_are_the_marker : (s : Bytes) (cs : List Call) → run cs f b s ≡ marker cs f b s
  unfolding run respond marker answering
  calls_are_the_marker s cs = marks.calls_are_the_marker (lawful f b) (asks_enough f b) s cs

  -- where the questions about the family pass, and the buffer has an object's length: `opens` (Going.antt) says when they do
  module _ (s : Bytes) (admitted : first_no (opening FIRST f b) ≡ none) (fits : length s ≡ object_length f b) where
    -- FIRST and then NEXT until END gives the listing
    pub first_on : (m : ℕ) → count_of f b ≤ m → until_end (run (FIRST ∷ replicate m NEXT) f b s) ≡ some (listing f b)
    unfolding run respond count_of answering
    first_on m h = walks.first_on (lawful f b) (asks_enough f b) s (first_passes f b (length s) (is_object f b s) admitted fits) (next_passes f b (length s) admitted fits) m h

    -- LAST and then PREVIOUS until END gives it backwards
    pub last-back : (m : ℕ) → count_of f b ≤ m → until_end (run (LAST ∷ replicate m PREVIOUS) f b s) ≡ some (reverse (listing f b))
    unfolding run respond count_of answering
    last-back m h = walks.last-back (lawful f b) (asks_enough f b) s (last_passes f b (length s) (is_object f b s) admitted fits) (previous_passes f b (length s) admitted fits) m h

    -- UNRANK of 0 to the count less one gives it too
    pub every_rank : count_of f b < 2 ^ 64 → bytes_of (run (unranks 0 (count_of f b)) f b s) ≡ listing f b
    unfolding run respond count_of answering
    every_rank h = walks.every_rank (lawful f b) (asks_enough f b) s (λ r holds lt. unrank_passes f b r (length s) holds admitted h fits lt)

  -- undo: from any bytes, where an object in them has m more behind it, m NEXT and m PREVIOUS give the very bytes back
  pub back_again : (m : ℕ) (s : Bytes) → (is_object f b s ≡ true → rank_of f b s + m < count_of f b) → finally s (run (replicate m NEXT ++ replicate m PREVIOUS) f b s) ≡ s
  unfolding run respond answering rank_of count_of
  back_again m s room = walks.back_again (lawful f b) (asks_enough f b) m s room

  next_free : (s : Bytes) → is_object f b s ≡ true → refusal NEXT f b (length s) true ≡ none
  next_free s o = next_passes f b (length s) (opens_for f b s o) ((lawful f b).long s o)

  -- that is so just where these NEXT hear no END

  pub unheard : (m : ℕ) (s : Bytes) → is_object f b s ≡ true → rank_of f b s + m < count_of f b → until_end (run (replicate m NEXT) f b s) ≡ none
  unfolding run respond answering rank_of count_of
  unheard m s o room = walks.next_unheard (lawful f b) (asks_enough f b) s o (next_free s o) m room

  pub unheard_room : (m : ℕ) (s : Bytes) → until_end (run (replicate m NEXT) f b s) ≡ none → is_object f b s ≡ true → rank_of f b s + m < count_of f b
  unfolding run respond answering rank_of count_of
  unheard_room m s quiet o = walks.unheard_room (lawful f b) (asks_enough f b) s o (next_free s o) m quiet

  -- from bytes that hold no object nothing moves, and none is heard
  pub unheard_refused : (m : ℕ) (s : Bytes) → is_object f b s ≡ false → until_end (run (replicate m NEXT) f b s) ≡ none
  unfolding run respond answering
  unheard_refused m s bare = go (refusal NEXT f b (length s) (is_object f b s)) refl
    where
      go : (o : Option ℕ) → refusal NEXT f b (length s) (is_object f b s) ≡ o → until_end (run (replicate m NEXT) f b s) ≡ none
      go none e = absurd (false≢true (sym bare ∙ (asks_enough f b).reads NEXT (length s) (is_object f b s) refl e))
      go (some q) e = walks.refused_unheard (lawful f b) (asks_enough f b) s e m

  -- so END unheard is enough for undo, whatever the bytes
  pub back_unheard : (m : ℕ) (s : Bytes) → until_end (run (replicate m NEXT) f b s) ≡ none → finally s (run (replicate m NEXT ++ replicate m PREVIOUS) f b s) ≡ s
  back_unheard m s quiet = back_again m s (unheard_room m s quiet)

  -- PREVIOUS hears no END where as many objects come before
  pub unheard_back : (m : ℕ) (s : Bytes) → is_object f b s ≡ true → m ≤ rank_of f b s → until_end (run (replicate m PREVIOUS) f b s) ≡ none
  unfolding run respond answering rank_of
  unheard_back m s o room =
      walks.previous_unheard (lawful f b) (asks_enough f b) s o (previous_passes f b (length s) (opens_for f b s o) ((lawful f b).long s o)) m room

  -- rank and unrank lead back to each other, over any bytes of the object's length
  pub rank_back : (x y : Bytes) (r : ℕ) → respond RANK f b x ≡ (RANKED r, x) → length y ≡ length x → respond (UNRANK r) f b y ≡ (WRITTEN, x)
  unfolding respond answering judged act count_of asked is_in
  rank_back x y r ranked same_length =
      let pass = passes (refusal RANK f b (length x) (is_object f b x)) x ranked (λ q e. let z : ◌≡◌ {A = ℕ} 0 1 = cc in omega arith) in
      let opens = opening-asked f b RANK (length x) (is_object f b x) refl pass.0 in
      let fits = fits-asked f b RANK (length x) (is_object f b x) refl pass.0 in
      let rank : count_before (comes_before f b) x (listing f b) ≡ r = cc (ap (λ (s : Said). s.0) pass.1) in
      let at = stands_at_rank (listed f b) x ((asks_enough f b).reads RANK (length x) (is_object f b x) refl pass.0) in
      let long = (asks_enough f b).sized RANK (length x) (is_object f b x) refl pass.0 in
      walks.rank_back (lawful f b) (asks_enough f b) x y r ranked
      (unrank_passes f b r (length y) (is_object f b y) opens fits (same_length ∙ long) (rw rank at at.inside))

  pub unrank_back : (x y : Bytes) (r : ℕ) → respond (UNRANK r) f b y ≡ (WRITTEN, x) → respond RANK f b x ≡ (RANKED r, x)
  unfolding respond answering judged act count_of asked is_in
  unrank_back x y r written =
      let pass = passes (refusal (UNRANK r) f b (length y) (is_object f b y)) y written (λ q e. let z : ◌≡◌ {A = ℕ} 0 1 = cc in omega arith) in
      let opens = opening-asked f b (UNRANK r) (length y) (is_object f b y) refl pass.0 in
      let fits = fits-asked f b (UNRANK r) (length y) (is_object f b y) refl pass.0 in
      let below = (asks_enough f b).below r (length y) (is_object f b y) pass.0 in
      let there : get_or (listing f b) r y ≡ x = ap (λ (s : Said). s.1) pass.1 in
      let object : is_object f b x ≡ true = rw there at (object_at (listed f b) r y below) in
      walks.unrank_back (lawful f b) (asks_enough f b) x y r written
      (rw object (rank_passes f b (length x) opens fits ((lawful f b).long x object)))
