-- The latest or the earliest, by the direction.
use Rattle.listings.specs.Directions.{latest, earliest}
use Rattle.derangements.proofs.ends.write_end.Goals as goal

pub returns-then-up : goal.returns-then-up
returns-then-up c = rw c.if-up.true (latest c.write_last.ensures)

pub returns-else-up : goal.returns-else-up
returns-else-up c = rw c.if-up.false (earliest c.write_first.ensures)
