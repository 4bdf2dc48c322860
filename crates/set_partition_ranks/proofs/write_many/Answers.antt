-- `set_partition_ranks::write_many`: where there is a rank, there are no more blocks than models.
use Rattle.std.proofs.Common.{◌≤◌}
use Rattle.set_partition_ranks.proofs.Ranks.{few_where_some}
use Rattle.set_partition_ranks.proofs.write_many.Goals as goal
use Rattle.set_partition_ranks.proofs.write_many.Goals.{Start}

few : (c : Start) → c.args.size.k ≤ c.args.size.n
few c = few_where_some c.args.size.n c.args.size.k c.args.rank c.requires.rank_bound

pub of-band-requires-clause-many : goal.of-band-requires-clause-many
of-band-requires-clause-many c = few (goal.at.of-band-requires-clause-many c).Start

pub place_of-requires : goal.place_of-requires
place_of-requires c = (few (goal.at.place_of-requires c).Start, c.of-band.ensures.0)
