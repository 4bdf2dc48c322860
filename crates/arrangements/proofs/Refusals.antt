-- A refusal is told by its number, whatever the call, and leaves the bytes or the number that were lent.
-- Assumes nothing.
use mathlib.Core.Path.{◌≡◌, sym, ap}
use mathlib.Core.Option.{some}
use Prim.Native.Nat.{ℕ}
use native.Mathlib.Omega.{arith}
use lib.ListN.{length}
use Rattle.listings.specs.Bytes.{Bytes}
use Rattle.listings.specs.Calls.{Call, first_no, judged}
use Rattle.families.specs.declared.Family.{Family}
use Rattle.families.specs.Table.{Lent}
use Rattle.families.specs.Families.{asked_of_all, is_object}
use Rattle.families.specs.Questions.{refusal}
use Rattle.families.specs.Calls.{respond, measured, unless_refused}
use Rattle.families.specs.Codes.{code_of, value_of, Coded}
use Rattle.families.proofs.Refusals.{Numbered, refusal-numbered, asked-numbered}
use Rattle.arrangements.specs.Told.{plain, told, Valued, valued}
use Rattle.arrangements.proofs.Telling.{others}

itself : {q : ℕ} → Numbered q → plain q ≡ q
itself {q} h = sym (others q (λ e. omega (arith, h.upto, e)) (λ e. omega (arith, h.upto, e)))

module _ (c : Call) (f : Family) (b : Lent) (x : Bytes) {q : ℕ} (missed : refusal c f b (length x) (is_object f b x) ≡ some q) where
  pub told_refused : ◌≡◌ {A = Coded} (told (respond c f b x)) (q, x)
  unfolding respond judged code_of
  told_refused = rw missed (ap (λ (r : ℕ). (r, x)) (itself (refusal-numbered c f b _ _ missed)))

  pub valued_refused : (v : ℕ) → ◌≡◌ {A = Valued} (valued (respond c f b x).0 v) (q, v)
  unfolding respond judged code_of value_of
  valued_refused v = rw missed (ap (λ (r : ℕ). (r, v)) (itself (refusal-numbered c f b _ _ missed)))

pub length_refused : (f : Family) (b : Lent) {q : ℕ} → first_no (asked_of_all f b) ≡ some q → (v : ℕ) → ◌≡◌ {A = Valued} (valued (measured f b) v) (q, v)
unfolding measured unless_refused code_of value_of
length_refused f b missed v = rw missed (ap (λ (r : ℕ). (r, v)) (itself (asked-numbered f b missed)))
