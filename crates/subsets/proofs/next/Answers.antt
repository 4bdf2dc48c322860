-- `next`: with the number found raised and those in front of it started over it is what follows; where none is found, it was the last.
use Rattle.std.proofs.Common.{◌+◌, get_or, true, arith}
use Rattle.listings.proofs.Stepping.{stops}
use Rattle.subsets.proofs.Theorem.{lists}
use Rattle.subsets.proofs.Neighbours.{Move, lent, moves, none_to_raise, number-raised}
use Rattle.subsets.proofs.next.Goals as goal
use Rattle.subsets.proofs.next.Goals.{In-Some}

-- the number found moves
move : (c : In-Some) → let x = c.args.object.now in let i = c.in-Some.i in Move true c.args.n i (get_or x i 0 + 1) 1 x
move c = let (within, tight, free) = c.in-Some.ensures in number-raised _ _ c.requires.1 _ within tight free

pub returns-in_default : goal.returns-in_default
returns-in_default c = stops (lists _ _) (none_to_raise _ _ c.requires.1 c.in_default.ensures)

pub overflow_add-object : goal.overflow_add-object
overflow_add-object c = let m = move (goal.at.overflow_add-object c).In-Some in omega (arith, m)

pub fill_up-requires : goal.fill_up-requires
fill_up-requires c = let m = move (goal.at.fill_up-requires c).In-Some in omega (arith, m, lent m)

pub returns : goal.returns
returns c = moves (move (goal.at.returns c).In-Some) c.fill_up.ensures
