-- What is left has moved into the places of c and n.
use Rattle.std.proofs.Common.{◌-◌, length, take, drop, arith}
use Rattle.derangements.specs.Cycles.{lowered}
use Rattle.derangements.proofs.Gaps.{all_mapped, dropped}
use Rattle.derangements.proofs.cycles.drop_pair.Goals as goal

pub returns : goal.returns
returns c =
    let x = c.args.object.now in
    let z = c.copy_within.new.self in
    let left = length x - 2 in
    let l = c.loop-label in
    let moved = c.copy_within.ensures.by_index in
    let labels = all_mapped (lowered c.args.c) (take left z) l.label-items l.label-index c.loop-label-test.false l.invariant in
    dropped (length x) c.args.c x z l.label-items (drop left z) (omega arith) (omega arith) (omega arith) c.requires.c_value moved.1 moved.0 labels
