-- `next`: the first part that can go up does, and without one the partition is the last.
use Rattle.std.proofs.Common.{◌+◌, ◌-◌, get_or, take, arith}
use Rattle.basics.specs.Sums.{total}
use Rattle.listings.proofs.Stepping.{next-steps, next_ends}
use Rattle.integer_partitions.proofs.Facts.{partition_cases, few}
use Rattle.integer_partitions.proofs.Theorem.{lists}
use Rattle.integer_partitions.proofs.Neighbours.{Moved, none_rises, raised, raises}
use Rattle.integer_partitions.proofs.next.Goals as goal
use Rattle.integer_partitions.proofs.next.Goals.{In-Some}

-- the part that goes up
move : (c : In-Some) → let x = c.args.object.now in let i = c.in-Some.i in Moved x i (get_or x i 0 + 1) (total (take i x) - 1)
move c = raised _ _ _ _ c.requires.object_value (omega arith) c.in-Some.ensures

pub part_to_raise-requires : goal.part_to_raise-requires
part_to_raise-requires c =
    let o = c.requires.object_value in
    omega (arith, partition_cases _ _ _ _ o, few _ _ _ _ (omega arith) o)

pub returns-in_default : goal.returns-in_default
returns-in_default c = next_ends (lists _ _ _) (none_rises _ _ _ c.requires.object_value c.in_default.ensures)

pub overflow_add-p : goal.overflow_add-p
overflow_add-p c = let m = move (goal.at.overflow_add-p c).In-Some in omega (arith, m)

pub sum-others-requires : goal.sum-others-requires
sum-others-requires c = let m = move (goal.at.sum-others-requires c).In-Some in omega (arith, m)

pub first-requires-clause-n_le_places : goal.first-requires-clause-n_le_places
first-requires-clause-n_le_places c = let m = move (goal.at.first-requires-clause-n_le_places c).In-Some in rw (c.from.ensures, c.sum-others.ensures) m.room

pub first-requires-clause-n_value : goal.first-requires-clause-n_value
first-requires-clause-n_value c = let m = move (goal.at.first-requires-clause-n_value c).In-Some in rw c.sum-others.ensures m.none

pub returns : goal.returns
returns c =
    next-steps (lists _ _ _)
    (raises _ _ _ _ c.requires.object_value c.in-Some.ensures c.first.new.object c.first.auto.object (rw (c.from.ensures, c.sum-others.ensures) at c.first.ensures))
