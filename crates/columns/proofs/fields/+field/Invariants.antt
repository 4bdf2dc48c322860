-- The recursion's measure: behind a blank the field is shorter.
use Rattle.std.proofs.Common.{length}
use Rattle.columns.proofs.fields.+field.Given as goal

abbrev pub decreases-field : goal.decreases-field
decreases-field l = length l.part.now
