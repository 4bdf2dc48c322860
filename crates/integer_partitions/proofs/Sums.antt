-- What the search for a part that can go up uses of sums and products.
-- Assumes nothing.
use mathlib.Core.Path.{◌≡◌, refl}
use mathlib.Core.List.{[]}
use native.Mathlib.Nat.{mul-le-mul}
use Rattle.basics.specs.Sums.{total}
use Rattle.basics.proofs.Totals.{total_take_more, total-take-le}

pub total_none : total [] ≡ 0
unfolding total
total_none = refl

pub ruleset sums = (total_none, total_take_more, total-take-le, mul-le-mul)
