-- With no key beyond, the whole is what it was; else the next key, with the first or the last left with it.
use Rattle.std.proofs.Common.{arith}
use Rattle.derangements.proofs.Neighbours.{turned_back, turned}
use Rattle.derangements.proofs.stepping.turn.Goals as goal

pub returns-in_default : goal.returns-in_default
returns-in_default c = (c.put_together.ensures, turned_back (omega arith) c.requires.keyed c.in_default.ensures c.requires.edge)

pub slice_bounds-write_end-end : goal.slice_bounds-write_end-end
slice_bounds-write_end-end c = (turned (omega arith) c.requires.keyed c.in-Some.ensures c.left_of-left.ensures).within

pub slice_bounds-write_end-end-2 : goal.slice_bounds-write_end-end-2
slice_bounds-write_end-end-2 c = (turned (omega arith) c.requires.keyed c.in-Some.ensures c.left_of-left.ensures).size

pub write_end-requires-clause-fact : goal.write_end-requires-clause-fact
write_end-requires-clause-fact c = (turned (omega arith) c.requires.keyed c.in-Some.ensures c.left_of-left.ensures).some

pub put_together-requires-2-clause-keyed : goal.put_together-requires-2-clause-keyed
put_together-requires-2-clause-keyed c = ((turned (omega arith) c.requires.keyed c.in-Some.ensures c.left_of-left.ensures).written _ c.write_end.ensures).keyed

pub returns : goal.returns
returns c =
    let t = turned (omega arith) c.requires.keyed c.in-Some.ensures c.left_of-left.ensures in
    let y = c.write_end.new.object in
    rw (c.put_together-2.ensures, (t.written y c.write_end.ensures).joined) (t.beside y c.requires.edge c.write_end.ensures)
