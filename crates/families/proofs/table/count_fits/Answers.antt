-- `families::table::count_fits`: of kind 4 the Stirling number is the family's count, and its n is within the places.
use Rattle.families.proofs.Dispatch.{given, n_within}
use Rattle.families.proofs.table.count_fits.Goals as goal

pub stirling_fits-requires : goal.stirling_fits-requires
stirling_fits-requires c = n_within _ _ _ (given c.args.a c.kind.ensures c.in-SetPartitions.is).bounds

pub returns-in-SetPartitions : goal.returns-in-SetPartitions
returns-in-SetPartitions c = rw (given c.args.a c.kind.ensures c.in-SetPartitions.is).counted c.stirling_fits.ensures
