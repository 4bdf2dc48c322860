-- A refusal's number is that of a question: from 1 to the last one's, and so below the codes of the other answers.
-- Assumes nothing.
use mathlib.Core.Path.{◌≡◌, refl}
use mathlib.Core.Bool.{Bool, true, ◌&&◌, false≢true}
use mathlib.Core.Logic.{⊎_elim}
use mathlib.Core.Option.{some}
use mathlib.Core.List.{List, [], ◌∷◌}
use Prim.Native.Nat.{ℕ, ◌≤◌}
use native.Mathlib.Omega.{arith}
use lib.Dec.{leb, eqb}
use borrow.Author.Tests.{leb-true, eqb-true}
use Rattle.listings.specs.Calls.{Call, first_no}
use Rattle.basics.proofs.Bools.{and-true, or_cases}
use Rattle.families.specs.declared.Family.{Family}
use Rattle.families.specs.Table.{Lent}
use Rattle.families.specs.Families.{asked_of_all}
use Rattle.families.specs.Questions.{is_in, put, opening, closing_for, refusal, last_question}
use Rattle.families.proofs.QuestionLaws.{no_was_put}

-- q is the number of a question
pub record Numbered (q : ℕ) : Type 0 where
  pub from : 1 ≤ q
  pub upto : q ≤ last_question

-- all of them are
numbered : List ℕ → Bool
numbered [] = true
numbered (p ∷ ps) = leb 1 p && leb p last_question && numbered ps

among_numbered : (q : ℕ) (ps : List ℕ) → numbered ps ≡ true → is_in q ps ≡ true → Numbered q
unfolding numbered is_in
among_numbered q [] h e = absurd (false≢true e)
among_numbered q (p ∷ ps) h e =
    let both = and-true (leb 1 p && leb p last_question) (numbered ps) h in
    let ends = and-true (leb 1 p) (leb p last_question) both.0 in
    let low = leb-true 1 p ends.0 in
    let high = leb-true p last_question ends.1 in
    ⊎_elim
    (λ w. let same = eqb-true q p w in record { from = omega arith; upto = omega arith })
    (λ w. among_numbered q ps both.1 w)
    (or_cases (eqb q p) (is_in q ps) e)

pub refusal-numbered : (c : Call) (f : Family) (b : Lent) (size : ℕ) (holds : Bool) {q : ℕ} → refusal c f b size holds ≡ some q → Numbered q
unfolding refusal opening closing_for asked_of_all put numbered
refusal-numbered c f b size holds {q} e = among_numbered q _ refl (no_was_put q _ e)

pub asked-numbered : (f : Family) (b : Lent) {q : ℕ} → first_no (asked_of_all f b) ≡ some q → Numbered q
unfolding asked_of_all numbered
asked-numbered f b {q} e = among_numbered q _ refl (no_was_put q _ e)
