-- `previous`: with the number found lowered and those in front of it as large as they can be it is what it followed; where none is found, it was the first.
use Rattle.std.proofs.Common.{arith, suc, ◌-◌, get_or}
use Rattle.listings.proofs.Stepping.{stops}
use Rattle.subsets.proofs.Theorem.{lists}
use Rattle.subsets.proofs.Neighbours.{moves, none_to_lower, number-lowered}
use Rattle.subsets.proofs.previous.Goals as goal

pub returns-in_default : goal.returns-in_default
returns-in_default c = stops (lists _ _) (none_to_lower _ _ c.requires.1 c.in_default.ensures)

pub returns : goal.returns
returns c =
    let x = c.args.object.now in
    let i = c.in-Some.i in
    let (within, low, free) = c.in-Some.ensures in
    moves (number-lowered _ x c.requires.1 i (get_or x i 0 - suc (suc i)) within low (omega arith)) c.fill_up.ensures
