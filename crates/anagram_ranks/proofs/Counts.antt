-- The count of a family within the limits, where it fits, is what the answer holds.
-- Assumes nothing.
use mathlib.Core.Path.{◌≡◌, refl}
use Prim.Native.Nat.{ℕ, ◌≤◌, ◌<◌, ◌^◌}
use mathlib.Core.Bool.{cond}
use lib.Dec.{leb}
use borrow.Author.Tests.{le-leb, lt-ltb}
use Rattle.std.specs.Prelude.{Ok, Err}
use Rattle.counting.specs.declared.CountError.TheVariants.{Outside}
use Rattle.counting.specs.Answers.{fits}

pub answer_is_exact : (n most v : ℕ) → n ≤ most → v < 2 ^ 64 → cond (leb n most) (fits v) (Err Outside) ≡ Ok v
unfolding fits
answer_is_exact n most v h small = rw (le-leb n most h, lt-ltb v (2 ^ 64) small) refl
