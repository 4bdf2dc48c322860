-- `unrank`: each turn writes the last number that is missing, and with none missing the object is there.
use Rattle.std.proofs.Common.{◌≡◌, ◌+◌, ◌-◌, arith}
use Rattle.subsets.proofs.Ranks.{unranking_on, unranked}
use Rattle.subsets.proofs.unrank.Goals as goal

pub loop-end-preserved : goal.loop-end-preserved
loop-end-preserved c =
    let end = c.loop-end.end - 1 in
    let (below, (counted, (low, high))) = c.largest_top-found.ensures in
    rw counted (unranking_on c.loop-end.invariant (end + 1) end _ (omega arith) (omega arith) (omega arith) below low high)

pub returns : goal.returns
returns c = let none : c.loop-end.end ≡ 0 = omega arith in unranked (rw none at c.loop-end.invariant)
