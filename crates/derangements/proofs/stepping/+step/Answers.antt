-- What is left moves, and the key is put to it again; or the key turns.
use Rattle.std.proofs.Common.{arith}
use Rattle.derangements.proofs.Theorem.{two-places}
use Rattle.derangements.proofs.Places.{stays_empty}
use Rattle.derangements.proofs.Neighbours.{rest}
use Rattle.derangements.proofs.stepping.+step.Goals as goal

pub returns-then-is_empty : goal.returns-then-is_empty
returns-then-is_empty t c = stays_empty c.args.up c.args.object.now c.if-is_empty.ensures

pub take_apart-key-requires-clause-in_bounds : goal.take_apart-key-requires-clause-in_bounds
take_apart-key-requires-clause-in_bounds t c = (two-places _ c.args.object.now c.requires.object_value c.if-is_empty.ensures, omega arith)

pub slice_bounds-step-end : goal.slice_bounds-step-end
slice_bounds-step-end t c = (rest c.args.up c.requires.object_value c.if-is_empty.ensures c.take_apart-key.auto.object c.take_apart-key.ensures c.left_of-left.ensures).within

pub slice_bounds-step-end-2 : goal.slice_bounds-step-end-2
slice_bounds-step-end-2 t c = (rest c.args.up c.requires.object_value c.if-is_empty.ensures c.take_apart-key.auto.object c.take_apart-key.ensures c.left_of-left.ensures).size

pub step-requires : goal.step-requires
step-requires t c =
    let r = rest c.args.up c.requires.object_value c.if-is_empty.ensures c.take_apart-key.auto.object c.take_apart-key.ensures c.left_of-left.ensures in
    (omega (arith, r.fewer, r.size, c.decreases), (omega (arith, r.fewer, r.size), r.object))

pub put_together-requires-clause-keyed : goal.put_together-requires-clause-keyed
put_together-requires-clause-keyed t c =
    let r = rest c.args.up c.requires.object_value c.if-is_empty.ensures c.take_apart-key.auto.object c.take_apart-key.ensures c.left_of-left.ensures in
    (r.written _ c.in-Moved.ensures).keyed

pub turn-requires-clause-edge : goal.turn-requires-clause-edge
turn-requires-clause-edge t c =
    let r = rest c.args.up c.requires.object_value c.if-is_empty.ensures c.take_apart-key.auto.object c.take_apart-key.ensures c.left_of-left.ensures in
    r.ended _ c.in-End.ensures.0 c.in-End.ensures.1

pub returns-in-Moved : goal.returns-in-Moved
returns-in-Moved t c =
    let r = rest c.args.up c.requires.object_value c.if-is_empty.ensures c.take_apart-key.auto.object c.take_apart-key.ensures c.left_of-left.ensures in
    rw (c.put_together.ensures, (r.written _ c.in-Moved.ensures).joined) (r.beside _ c.in-Moved.ensures)
