-- There is room for an object of the length that was told.
use mathlib.Core.Path.{◌≡◌, sym, ◌∙◌, ap}
use Prim.Native.Nat.{ℕ, ◌≤◌}
use native.Mathlib.Omega.{arith}
use lib.ListN.{length, take, replicate}
use lib.Seq.{length-take-le}
use Rattle.basics.specs.Limits.{longest_object}
use Rattle.listings.specs.Calls.{Answer, MEASURED}
use Rattle.families.proofs.Going.{length-known}
use Rattle.checker.proofs.check_long.Goals as goal

-- the part of the array that is lent is so long
part : (n : ℕ) → n ≤ longest_object → length (take n (replicate {A = ℕ} longest_object 0)) ≡ n
part n within = length-take-le n (replicate {A = ℕ} longest_object 0) within

pub slice_bounds-space-end : goal.slice_bounds-space-end
slice_bounds-space-end c = omega (arith, (length-known _ _ c.requires).within)

pub slice_bounds-check_in-end : goal.slice_bounds-check_in-end
slice_bounds-check_in-end c = sym (part c.args.long (length-known _ _ c.requires).within)

pub check_in-requires : goal.check_in-requires
check_in-requires c =
    ap {B = Answer} MEASURED (part c.args.long (length-known _ _ c.requires).within) ∙ c.requires
