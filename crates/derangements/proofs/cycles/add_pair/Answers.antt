-- The labels are small enough to move up, and the places in front of the last hold what was moved, c and n.
use Rattle.std.proofs.Common.{◌-◌, length, take, arith}
use Rattle.derangements.specs.Cycles.{raised}
use Rattle.derangements.proofs.Gaps.{all_mapped, label_small, added}
use Rattle.derangements.proofs.cycles.add_pair.Goals as goal

pub raised-requires : goal.raised-requires
raised-requires c =
    let x = c.args.object.now in
    let l = c.loop-label in
    omega (arith, label_small (length x) x l.label-items (raised c.args.c) l.label-index (omega arith) (omega arith) c.requires.object_value (omega arith) l.invariant)

pub returns : goal.returns
returns c =
    let x = c.args.object.now in
    let l = c.loop-label in
    let labels = all_mapped (raised c.args.c) (take (length x - 2) x) l.label-items l.label-index c.loop-label-test.false l.invariant in
    added (length x) c.args.c x l.label-items c.copy_within.new.self (omega arith) (omega arith) (omega arith) (omega arith) labels c.copy_within.ensures.len c.copy_within.ensures.by_index.0
