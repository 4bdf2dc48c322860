-- From the answer of the crate `counting` to the family's count.
-- Assumes nothing.
use mathlib.Core.Path.{◌≡◌, sym, ap, ◌∙◌}
use mathlib.Core.Bool.{Bool, true, cond}
use Prim.Native.Nat.{ℕ}
use Rattle.std.specs.Prelude.{Result, Err}
use Rattle.counting.specs.declared.CountError.{CountError}
use Rattle.counting.specs.declared.CountError.TheVariants.{Outside}
use Rattle.counting.specs.Answers.{fits}
use Rattle.counting.proofs.Answers.{within_in}

-- the answer for arguments within the limits is the answer for the count
pub answer-within : {t : Bool} {v w : ℕ} {r : Result ℕ CountError} → r ≡ cond t (fits v) (Err Outside) → t ≡ true → w ≡ v → r ≡ fits w
answer-within {t} {v} e inside same = e ∙ within_in t (fits v) inside ∙ sym (ap fits same)
