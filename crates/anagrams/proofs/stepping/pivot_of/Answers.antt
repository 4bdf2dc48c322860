-- The letter in front of a tail that is spent does not precede the tail's first: the tail with it is spent too.
use Rattle.std.proofs.Common.{arith, length, sym, ◌-◌}
use Rattle.anagrams.proofs.Neighbours.{spent_none, spent_more}
use Rattle.anagrams.proofs.stepping.pivot_of.Goals as goal

pub loop-tail-init : goal.loop-tail-init
loop-tail-init c = let x = c.args.object.now in spent_none _ x (length x - 1) (omega arith)

pub loop-tail-preserved : goal.loop-tail-preserved
loop-tail-preserved c =
    let l = c.loop-tail in spent_more _ _ (l.tail - 1 - 1) (l.tail - 1) (omega arith) (omega arith) (sym c.if-precedes.ensures) l.invariant
