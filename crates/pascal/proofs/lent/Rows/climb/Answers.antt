-- `pascal::lent::Rows::climb` meets its contract: each sum is part of the entry that is worked out, and the last row is row n.
use Rattle.std.proofs.Common.{arith}
use Rattle.pascal.proofs.Windows.{row_more, sums_fit, entry_reached}
use Rattle.pascal.proofs.lent.Rows.climb.Goals as goal

pub add_neighbours-requires-clause-by_index : goal.add_neighbours-requires-clause-by_index
add_neighbours-requires-clause-by_index c = λ i h. sums_fit c.loop-left.invariant c.requires.1.1 i (omega arith)

pub loop-left-preserved : goal.loop-left-preserved
loop-left-preserved c = row_more c.loop-left.invariant c.loop-left-test.true c.add_neighbours.ensures

pub returns : goal.returns
returns c = entry_reached c.loop-left.invariant c.loop-left-test.false
