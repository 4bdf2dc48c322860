-- `set_partition_ranks::sources::Band::of`: a list of ones has the first row of the band.
use Rattle.std.proofs.Common.{◌+◌, refl, arith}
use Rattle.stirlings.specs.Inner.Band.{capacity}
use Rattle.stirlings.proofs.Walk.{ones}
use Rattle.set_partition_ranks.proofs.sources.Band.of.Goals as goal

pub fill-requires-clause-filled : goal.fill-requires-clause-filled
fill-requires-clause-filled c = rw c.requires.ones (ones capacity (c.args.size.k + 1) refl (omega (arith, c.requires.many, c.args.size.in_limits.0)))
