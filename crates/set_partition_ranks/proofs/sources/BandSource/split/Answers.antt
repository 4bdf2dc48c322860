-- The split of the partitions at a place of a band: the two numbers there are those of the last model.
use Rattle.std.proofs.Common.{arith}
use Rattle.stirlings.proofs.Walk.{number, to_alone, to_joined}
use Rattle.set_partition_ranks.proofs.sources.BandSource.split.Goals as goal

pub returns-clause-numbers : goal.returns-clause-numbers
returns-clause-numbers c =
    let r = c.requires in
    (number _ _ _ _ _ (to_alone _ _ _ _ _ r.reaches r.inside.0 (omega arith)) (omega arith), number _ _ _ _ _ (to_joined _ _ _ _ _ r.reaches r.inside.1) (omega arith))
