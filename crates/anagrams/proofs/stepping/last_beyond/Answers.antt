-- Behind the end there is no letter, and the one that is tested is not preceded by the pivot's.
use Rattle.std.proofs.Common.{arith, sym, ◌-◌}
use Rattle.anagrams.proofs.Neighbours.{beyond_none, beyond_more}
use Rattle.anagrams.proofs.stepping.last_beyond.Goals as goal

pub loop-place-init : goal.loop-place-init
loop-place-init c = record { behind = omega arith; none = beyond_none _ _ c.args.object.now }

pub loop-place-preserved : goal.loop-place-preserved
loop-place-preserved c =
    let l = c.loop-place in
    record { behind = omega arith; none = beyond_more _ _ _ (l.place - 1) l.place (omega arith) (omega arith) (sym c.if-precedes.ensures) l.invariant.none }
