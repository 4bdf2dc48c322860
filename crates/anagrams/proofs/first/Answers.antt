-- One letter more is written as often as its count says.
use Rattle.std.proofs.Common.{arith, rules}
use Rattle.basics.proofs.Totals.{total-drop}
use Rattle.anagrams.proofs.Places.{written_more, written_all}
use Rattle.anagrams.proofs.first.Goals as goal

pub slice_bounds-fill-end : goal.slice_bounds-fill-end
slice_bounds-fill-end c = omega (arith, total-drop c.args.counts.now c.loop-i.i c.loop-i-test.true)

pub loop-i-preserved : goal.loop-i-preserved
loop-i-preserved c = written_more _ _ _ _ _ _ c.from.ensures c.loop-i-test.true c.loop-i.invariant (c.fill.ensures.after (search rules))

pub returns : goal.returns
returns c = written_all _ _ _ _ c.loop-i-test.false c.loop-i.invariant
