-- `previous`: the first part that can go down does, and without one the partition is the first.
use Rattle.std.proofs.Common.{◌+◌, ◌-◌, get_or, take, arith}
use Rattle.basics.specs.Sums.{total}
use Rattle.listings.proofs.Stepping.{previous_steps, previous_ends}
use Rattle.integer_partitions.proofs.Theorem.{lists}
use Rattle.integer_partitions.proofs.Neighbours.{Moved, none_falls, lowered, lowers}
use Rattle.integer_partitions.proofs.previous.Goals as goal
use Rattle.integer_partitions.proofs.previous.Goals.{In-Some}

-- the part that goes down
move : (c : In-Some) → let x = c.args.object.now in let i = c.in-Some.i in Moved x i (get_or x i 0 - 1) (total (take i x) + 1)
move c = lowered _ _ _ _ c.requires.object_value c.requires.n_le_places c.in-Some.ensures

pub returns-in_default : goal.returns-in_default
returns-in_default c = previous_ends (lists _ _ _) (none_falls _ _ _ c.requires.object_value c.in_default.ensures)

pub sum-others-requires : goal.sum-others-requires
sum-others-requires c = let m = move (goal.at.sum-others-requires c).In-Some in omega (arith, m)

pub overflow_add-others : goal.overflow_add-others
overflow_add-others c = let m = move (goal.at.overflow_add-others c).In-Some in omega (arith, m)

pub last-requires-clause-n_le_places : goal.last-requires-clause-n_le_places
last-requires-clause-n_le_places c = let m = move (goal.at.last-requires-clause-n_le_places c).In-Some in rw (c.from.ensures, c.sum-others.ensures) m.room

pub returns : goal.returns
returns c =
    previous_steps (lists _ _ _)
    (lowers _ _ _ _ c.requires.object_value c.in-Some.ensures c.last.new.object c.last.auto.object (rw (c.from.ensures, c.sum-others.ensures) at c.last.ensures))
