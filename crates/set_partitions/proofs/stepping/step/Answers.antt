-- `set_partitions::stepping::step` meets its contract: at the place found, the key moves, and in front of it stands the partition to start from.
use Rattle.std.proofs.Common.{not, arith}
use Rattle.basics.proofs.Lists.{front_long}
use Rattle.listings.specs.Directions.{Edge}
use Rattle.listings.proofs.Stepping.{steps, stops}
use Rattle.set_partitions.specs.Listing.{set_partitions}
use Rattle.set_partitions.proofs.Theorem.{lists}
use Rattle.set_partitions.proofs.Neighbours.{all_passed, first_block, Turn, turn}
use Rattle.set_partitions.proofs.stepping.step.Goals as goal
use Rattle.set_partitions.proofs.stepping.step.Goals.{In-Some}

pub block_to_move-requires : goal.block_to_move-requires
block_to_move-requires c = first_block _ c.args.k c.args.object.now c.requires.object_value

pub returns-in_default : goal.returns-in_default
returns-in_default c =
    let e = c.args.end.edition in
    let x = c.args.object.now in
    stops (lists e _ c.args.k) (all_passed e c.args.k x c.requires.object_value c.in_default.ensures)

turned : (c : In-Some) → let s = c.in-Some.field-0 in Turn c.args.end.edition c.args.end.up c.args.k s.place s.used c.args.object.now
turned c = let s = c.in-Some.field-0 in turn c.args.end.edition c.args.k s.place s.used c.args.object.now c.requires.object_value c.in-Some.ensures

pub move_key-moved-requires : goal.move_key-moved-requires
move_key-moved-requires c =
    let t = turned (goal.at.move_key-moved-requires c).In-Some in
    (t.from, (omega (arith, t.upto), (t.some, omega (arith, t.few, c.in-Some.ensures.inside, c.requires.object_len_bound))))

pub write-requires-clause-k_in_bounds : goal.write-requires-clause-k_in_bounds
write-requires-clause-k_in_bounds c =
    let t = turned (goal.at.write-requires-clause-k_in_bounds c).In-Some in
    rw (c.from.ensures, front_long c.args.object.now c.in-Some.field-0.place _ c.in-Some.ensures.inside) (t.moved _ _ c.move_key-moved.ensures).0

pub returns : goal.returns
returns c =
    let t = turned (goal.at.returns c).In-Some in
    let a = c.args in
    let x = a.object.now in
    let r = c.in-Some.field-0.place in
    let again : Edge (not a.end.up) (set_partitions a.end.edition r c.move_key-moved.result.used) c.write.new.object = rw (c.from.ensures, front_long x r _ c.in-Some.ensures.inside, c.opposite.ensures.0, c.opposite.ensures.1) at c.write.ensures in
    steps (lists a.end.edition _ a.k) ((t.moved _ _ c.move_key-moved.ensures).1 _ again)
