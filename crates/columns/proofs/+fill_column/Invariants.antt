-- The recursion's measure: before its last place the part is shorter.
use Rattle.std.proofs.Common.{length}
use Rattle.columns.proofs.+fill_column.Given as goal

abbrev pub decreases-fill_column : goal.decreases-fill_column
decreases-fill_column l = length l.part.now
