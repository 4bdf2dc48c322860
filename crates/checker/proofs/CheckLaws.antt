-- What a check says, for any family, lists, number of entries and bytes: what it accepts and refuses, how a place is wrong, and that our own list passes.
-- Assumes nothing.
use mathlib.Core.Path.{◌≡◌, refl, sym, ◌∙◌, ap, ap₂, subst}
use mathlib.Core.Logic.{◌⊎◌, inl, inr, ◌↔◌}
use mathlib.Core.Bool.{Bool, true, false}
use mathlib.Core.Option.{Option, none, some, some-injective, none-ne-some, some-ne-none}
use mathlib.Core.List.{List, [], ◌∷◌, flatten, Memᴰ}
use Prim.Native.Nat.{ℕ, ◌*◌, ◌≤◌, ◌<◌, ◌^◌}
use native.Mathlib.Nat.{mul-zero}
use native.Mathlib.Decide.{dec_lt}
use native.Mathlib.Omega.{arith}
use lib.Dec.{eqb}
use lib.ListN.{length, get_elem?, get_or, replicate}
use borrow.Author.Tests.{eq-eqb}
use Rattle.listings.specs.Bytes.{Bytes}
use Rattle.listings.specs.Places.{At}
use Rattle.listings.specs.Calls.{FIRST, NEXT, first_no, responses}
use Rattle.listings.specs.Runs.{heard, until_end}
use Rattle.listings.proofs.PlaceRules.{at_exists, member_at}
use Rattle.listings.proofs.Standing.{get_elem_none, get_elem_some}
use Rattle.families.specs.declared.Family.{Family}
use Rattle.families.specs.Table.{Lent}
use Rattle.families.specs.Families.{always, object_length, listing, count_of}
use Rattle.families.specs.Questions.{opening, closing_for, refusal}
use Rattle.families.specs.Calls.{run}
use Rattle.families.proofs.QuestionLaws.{past, none_left, after_no}
use Rattle.families.proofs.FamilyFacts.{rank_is_place}
use Rattle.families.proofs.Verdicts.{opened}
use Rattle.families.proofs.Going.{object-here, long-here}
use Rattle.families.proofs.Refusals.{Numbered, refusal-numbered}
use Rattle.families.proofs.Answered.{first-answers, opens_for}
use Rattle.families.proofs.Demand.{first_on, unheard}
use Rattle.std.specs.Prelude.{Ok, Err}
use Rattle.families.specs.Answers.{number_of}
use Rattle.checker.specs.declared.CheckError.{CheckError}
use Rattle.checker.specs.Checking.{cut_into, entries_of, check_refusal, WrongAt, Checked, refused_by, Says}
use Rattle.checker.proofs.Entries.{many, joined-long, cut-joined}
use Rattle.checker.proofs.Answering.{family_missed, family-passed}

missed_twelve : (t : Bool) {q : ℕ} → first_no (always 12 t ∷ []) ≡ some q → q ≡ 12
unfolding first_no
missed_twelve true {q} e = absurd (none-ne-some q e)
missed_twelve false {q} e = sym (some-injective 12 q e)

-- how a place is wrong: "the entry isn't the object of that rank, is missing, or lies beyond the last object"
pub data Fault (l es : List Bytes) (p : ℕ) : Type 0 where
  other : {x y : Bytes} → At l x p → At es y p → (y ≡ x → ⊥) → Fault l es p
  missing : {x : Bytes} → At l x p → length es ≤ p → Fault l es p
  beyond : {y : Bytes} → length l ≤ p → At es y p → Fault l es p

pub wrong_means : (l es : List Bytes) (p : ℕ) → WrongAt l es p → Fault l es p
unfolding WrongAt
wrong_means l es p w =
    elim (dec_lt p (length l)) [
      | yes h ↦
          elim (dec_lt p (length es)) [
            | yes k ↦ let (x, here) = at_exists l p h in let (y, there) = at_exists es p k in other here there (λ e. w (there ∙ ap {B = Option Bytes} some e ∙ sym here))
            | no k ↦ let (x, here) = at_exists l p h in missing here (omega arith)
          ]
      | no h ↦
          elim (dec_lt p (length es)) [
            | yes k ↦ let (y, there) = at_exists es p k in beyond (omega arith) there
            | no k ↦ absurd (w (get_elem_none es p (omega arith) ∙ sym (get_elem_none l p (omega arith))))
          ]
    ]

pub means_wrong : (l es : List Bytes) (p : ℕ) → Fault l es p → WrongAt l es p
unfolding WrongAt
means_wrong l es p (other {x = x} {y = y} here there ne) e = ne (some-injective y x (sym there ∙ e ∙ here))
means_wrong l es p (missing {x = x} here h) e = none-ne-some x (sym (get_elem_none es p h) ∙ e ∙ here)
means_wrong l es p (beyond {y = y} h there) e = some-ne-none y (sym there ∙ e ∙ get_elem_none l p h)

-- a list that is too short: some place is wrong, and the entries are fewer than the objects
pub record TooShort (f : Family) (b : Lent) (m : ℕ) (s : Bytes) (r : Checked) : Type 0 where
  pub place : ℕ
  pub wrong : r ≡ Err (CheckError.Wrong place)
  pub fewer : length (entries_of f b m s) < count_of f b

module _ (f : Family) (b : Lent) where
  -- every answer but the place is fixed

  module _ (m : ℕ) (s : Bytes) {r : Checked} (says : Says f b m s r) where
    pub accepts_exactly : (r ≡ Ok tt) ↔ ((check_refusal f b m (length s) ≡ none) × (entries_of f b m s ≡ listing f b))
    unfolding Says WrongAt
    accepts_exactly = ((λ e. subst (Says f b m s) e says), go r says)
      where
        go : (r : Checked) → Says f b m s r → (check_refusal f b m (length s) ≡ none) × (entries_of f b m s ≡ listing f b) → r ≡ Ok tt
        go (Ok tt) t h = refl
        go (Err (CheckError.Wrong p)) t h = absurd (t.1 (ap (λ (l : List Bytes). get_elem? l p) h.1))
        go (Err CheckError.Entries) t h = absurd (some-ne-none 12 (sym t ∙ h.0))
        go (Err (CheckError.Refused q)) t h = absurd (some-ne-none (number_of q) (sym t ∙ h.0))

    -- and a place is given in all other cases, which is wrong
    pub wrong_otherwise : check_refusal f b m (length s) ≡ none → (entries_of f b m s ≡ listing f b → ⊥) → (p : ℕ) × ((r ≡ Err (CheckError.Wrong p)) × Fault (listing f b) (entries_of f b m s) p)
    unfolding Says
    wrong_otherwise pass differ = go r says
      where
        go : (r : Checked) → Says f b m s r → (p : ℕ) × ((r ≡ Err (CheckError.Wrong p)) × Fault (listing f b) (entries_of f b m s) p)
        go (Ok u) t = absurd (differ t.1)
        go (Err (CheckError.Wrong p)) t = (p, (refl, wrong_means (listing f b) (entries_of f b m s) p t.1))
        go (Err CheckError.Entries) t = absurd (some-ne-none 12 (sym t ∙ pass))
        go (Err (CheckError.Refused q)) t = absurd (some-ne-none (number_of q) (sym t ∙ pass))

    -- "when the count exceeds 64 bits, where such a list can only be too short"
    pub only_too_short : m < 2 ^ 64 → 2 ^ 64 ≤ count_of f b → check_refusal f b m (length s) ≡ none → TooShort f b m s r
    unfolding entries_of count_of
    only_too_short small large pass =
        let fewer : length (entries_of f b m s) < count_of f b = omega (arith, many m (object_length f b) s) in
        let (p, (e, w)) = wrong_otherwise pass (λ e. let same = ap length e in omega arith) in
        record { place = p; wrong = e; fewer = fewer }

  -- it says a number just where that is the first no
  module _ (m : ℕ) (s : Bytes) (r : Checked) (says : Says f b m s r) where
    pub refuses_exactly : (q : ℕ) → (refused_by r ≡ some q) ↔ (check_refusal f b m (length s) ≡ some q)
    unfolding Says
    refuses_exactly q = (asked r says, go r says)
      where
        asked : (r : Checked) → Says f b m s r → refused_by r ≡ some q → check_refusal f b m (length s) ≡ some q
        asked (Ok u) t h = absurd (none-ne-some q h)
        asked (Err (CheckError.Wrong p)) t h = absurd (none-ne-some q h)
        asked (Err CheckError.Entries) t h = t ∙ h
        asked (Err (CheckError.Refused p)) t h = t ∙ h

        go : (r : Checked) → Says f b m s r → check_refusal f b m (length s) ≡ some q → refused_by r ≡ some q
        go (Ok u) t h = absurd (none-ne-some q (sym t.0 ∙ h))
        go (Err (CheckError.Wrong p)) t h = absurd (none-ne-some q (sym t.0 ∙ h))
        go (Err CheckError.Entries) t h = sym t ∙ h
        go (Err (CheckError.Refused p)) t h = sym t ∙ h

  -- what a check is refused by is the number of a question that calls are put, or 12
  pub check_numbered : (m size : ℕ) {q : ℕ} → check_refusal f b m size ≡ some q → Numbered q ⊎ (q ≡ 12)
  unfolding refusal
  check_numbered m size {q} e = go (first_no (opening FIRST f b)) refl
    where
      go : (o : Option ℕ) → first_no (opening FIRST f b) ≡ o → Numbered q ⊎ (q ≡ 12)
      go none pass = inr (missed_twelve (eqb size (m * object_length f b)) (sym (family-passed f b m size pass) ∙ e))
      go (some p) first =
          let same : some p ≡ some q = sym (family_missed f b m size first) ∙ e in
          inl (refusal-numbered FIRST f b 0 false (after_no (opening FIRST f b) (closing_for FIRST (count_of f b) (object_length f b) 0 false) first ∙ same))

  -- of an object that is the empty string, one entry is accepted, and no other number
  pub empty_objects_lem : listing f b ≡ [] ∷ [] → (m : ℕ) {r : Checked} → Says f b m [] r → (r ≡ Ok tt) ↔ (m ≡ 1)
  unfolding entries_of cut_into
  empty_objects_lem alone m says = (
    (λ e. sym (many m (object_length f b) []) ∙ ap length (((accepts_exactly m [] says).0 e).1 ∙ alone)),
    (λ e. (accepts_exactly m [] says).1 (pass, ap₂ (λ (n long : ℕ). cut_into n long []) e nothing ∙ sym alone)),
  )
    where
      here : At (listing f b) [] 0
      here = ap (λ (l : List Bytes). get_elem? l 0) alone

      nothing : object_length f b ≡ 0
      nothing = sym (long-here f b 0 here)

      product : eqb 0 (m * object_length f b) ≡ true
      product = eq-eqb 0 (m * object_length f b) (sym (ap (λ (n : ℕ). m * n) nothing ∙ mul-zero m))

      pass : check_refusal f b m 0 ≡ none
      pass = family-passed f b m 0 (opens_for f b [] (object-here f b 0 here)) ∙ past _ [] product ∙ none_left

  -- our own list

  module _ (s : Bytes) (admitted : first_no (opening FIRST f b) ≡ none) (fits : length s ≡ object_length f b) where
    -- without END nothing is given
    unended : (m : ℕ) → m < count_of f b → until_end (run (FIRST ∷ replicate m NEXT) f b s) ≡ none
    unfolding run responses until_end heard count_of
    unended m h =
        let x = get_or (listing f b) 0 s in
        let here : At (listing f b) x 0 = get_elem_some (listing f b) 0 s (omega arith) in
        let quiet = unheard f b m x (object-here f b 0 here) (omega (arith, rank_is_place f b 0 here)) in
        rw (first-answers f b s (opened f b FIRST admitted) (omega arith) fits, quiet)

    whole : (m : ℕ) (l : List Bytes) → until_end (run (FIRST ∷ replicate m NEXT) f b s) ≡ some l → l ≡ listing f b
    whole m l e =
        elim (dec_lt m (count_of f b)) [
          | yes h ↦ absurd (none-ne-some l (sym (unended m h) ∙ e))
          | no h ↦ some-injective l (listing f b) (sym e ∙ first_on f b s admitted fits m (omega arith))
        ]

    -- what FIRST and NEXT until END give, one behind the other, is accepted
    pub own_list : (m : ℕ) (l : List Bytes) → until_end (run (FIRST ∷ replicate m NEXT) f b s) ≡ some l → {r : Checked} → Says f b (length l) (flatten l) r → r ≡ Ok tt
    unfolding entries_of
    own_list m l given says =
        let all = whole m l given in
        let alike : (x : Bytes) → Memᴰ x l → length x ≡ object_length f b = λ x k. let (p, h) = member_at k in long-here f b p (subst (λ (t : List Bytes). At t x p) all h) in
        let product = eq-eqb _ _ (joined-long (object_length f b) l alike) in
        (accepts_exactly (length l) (flatten l) says).1 (
          family-passed f b (length l) (length (flatten l)) admitted ∙ past _ [] product ∙ none_left,
          cut-joined (object_length f b) l alike ∙ all,
        )
