-- From the answer and the bytes of a call of `families` to the code, the bytes and the value that an exported call gives.
-- Assumes nothing.
use mathlib.Core.Path.{◌≡◌, refl, ◌∙◌, ap}
use Prim.Native.Nat.{ℕ}
use lib.IntN.{ℤ}
use borrow.Author.Tests.{ne_eqb}
use Rattle.listings.specs.Bytes.{Bytes}
use Rattle.std.specs.Prelude.{Result, Ok, Err}
use Rattle.listings.specs.Calls.{Call, Answer, Said}
use Rattle.families.specs.declared.Family.{Family}
use Rattle.families.specs.declared.refusal.Refusal.{Refusal}
use Rattle.families.specs.Table.{Lent}
use Rattle.families.specs.Answers.{number_of, counted_as, ranked_as, length_as}
use Rattle.families.specs.Calls.{respond}
use Rattle.families.specs.Codes.{code_of, value_of, Coded}
use Rattle.walk.specs.declared.Way.{Way}
use Rattle.walk.specs.Walks.{Kept, Outcome, step_kept}
use Rattle.jump.specs.Jumps.{jump}
use Rattle.checker.specs.Checking.{Checked, Says}
use Rattle.arrangements.specs.Told.{plain, told, Valued, valued, number_told, CodedStep, told_step, check_told, ToldCheck}

-- a code that is neither 20 nor 21 is told as it is
pub others : (code : ℕ) → (code ≡ 20 → ⊥) → (code ≡ 21 → ⊥) → code ≡ plain code
unfolding plain
others code a b = rw (ne_eqb code 20 a, ne_eqb code 21 b) refl

-- what was said and left, told
telling_left : {A : Type 0} {a : Answer} {left : A} {s : Answer × A} → ◌≡◌ {A = Answer × A} (a, left) s
    → {r code : ℕ} → code ≡ code_of a → r ≡ plain code → ◌≡◌ {A = ℕ × A} (r, left) (plain (code_of s.0), s.1)
telling_left {A} {left = left} said ec er =
    ap {B = ℕ × A} (λ (r : ℕ). (r, left)) (er ∙ ap plain ec) ∙ ap {B = ℕ × A} (λ (s : Answer × A). (plain (code_of s.0), s.1)) said

-- a call of `families`, told
module _ (b : Lent) (f : Family) {a : Answer} {y : Bytes} (c : Call) (x : Bytes) (said : ◌≡◌ {A = Said} (a, y) (respond c f b x)) where
  -- a call that leaves bytes
  pub telling : {r code : ℕ} → code ≡ code_of a → r ≡ plain code → ◌≡◌ {A = Coded} (r, y) (told (respond c f b x))
  telling = telling_left said

  pub answering : a ≡ (respond c f b x).0
  answering = ap (λ (s : Said). s.0) said

-- a number, or a refusal, is told as what it answers
module _ (v : ℕ) where
  refusal_told : (q : Refusal) → number_of q ≡ plain (number_of q)
  unfolding plain
  refusal_told Refusal.Kind = refl
  refusal_told Refusal.Sizes = refl
  refusal_told Refusal.Counts = refl
  refusal_told Refusal.NoObject = refl
  refusal_told Refusal.TooMany = refl
  refusal_told Refusal.Length = refl
  refusal_told Refusal.NotAnObject = refl
  refusal_told Refusal.Rank = refl
  refusal_told Refusal.Floor = refl
  refusal_told Refusal.Edition = refl

  pub told_counted : (r : Result ℕ Refusal) → number_told r v ≡ valued (counted_as r) v
  unfolding plain code_of value_of
  told_counted (Ok n) = refl
  told_counted (Err q) = ap (λ (r : ℕ). (r, v)) (refusal_told q)

  pub told_ranked : (r : Result ℕ Refusal) → number_told r v ≡ valued (ranked_as r) v
  unfolding plain code_of value_of
  told_ranked (Ok n) = refl
  told_ranked (Err q) = ap (λ (r : ℕ). (r, v)) (refusal_told q)

  pub told_long : (r : Result ℕ Refusal) → number_told r v ≡ valued (length_as r) v
  unfolding plain code_of value_of
  told_long (Ok n) = refl
  told_long (Err q) = ap (λ (r : ℕ). (r, v)) (refusal_told q)

-- a jump
pub telling_jump : (b : Lent) (f : Family) {a : Answer} {y : Bytes} (d : ℤ) (x : Bytes) → ◌≡◌ {A = Said} (a, y) (jump f b d x)
    → {r code : ℕ} → code ≡ code_of a → r ≡ plain code → ◌≡◌ {A = Coded} (r, y) (told (jump f b d x))
telling_jump b f d x said = telling_left said

-- a step of a walk
pub telling_step : (b : Lent) (f : Family) {a : Answer} {left : Kept} (way : Way) (size : ℕ) (w : Kept) → ◌≡◌ {A = Outcome} (a, left) (step_kept way f b size w)
    → {r code : ℕ} → code ≡ code_of a → r ≡ plain code → ◌≡◌ {A = CodedStep} (r, left) (told_step (step_kept way f b size w))
telling_step b f way size w said = telling_left said

-- a check: what is told is told of the answer that it gave
pub telling_check : (b : Lent) (f : Family) (m : ℕ) (s : Bytes) (v : ℕ) (a : Checked) → Says f b m s a → ToldCheck f b m s v (check_told a v)
telling_check b f m s v a says = record { answer = a; says = says; told = refl }
