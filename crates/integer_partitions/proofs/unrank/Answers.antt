-- `unrank`: a turn keeps what makes the object, and with rank 0 left the first of the parts that are missing does.
use Rattle.std.proofs.Common.{arith}
use lib.Seq.{length-take-le}
use Rattle.integer_partitions.proofs.Ranks.{fits, ends_here, ends_higher}
use Rattle.integer_partitions.proofs.unrank.Goals as goal

pub loop-rest-preserved-then-rest-here : goal.loop-rest-preserved-then-rest-here
loop-rest-preserved-then-rest-here c = ends_here c.loop-rest.invariant (omega arith) c.at_least-here.ensures c.if-rest-here.true

pub loop-rest-preserved : goal.loop-rest-preserved
loop-rest-preserved c = ends_higher c.loop-rest.invariant (omega arith) c.at_least-here.ensures c.if-rest-here.false

pub first-requires-clause-n_le_places : goal.first-requires-clause-n_le_places
first-requires-clause-n_le_places c =
    let l = c.loop-rest in
    rw (length-take-le l.k l.object (omega arith)) (omega (arith, fits l.least l.left l.k (omega arith)))

pub first-requires-clause-n_value : goal.first-requires-clause-n_value
first-requires-clause-n_value c =
    let l = c.loop-rest in
    rw (length-take-le l.k l.object (omega arith)) (fits l.least l.left l.k (omega arith)).1
