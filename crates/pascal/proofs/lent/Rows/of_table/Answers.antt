-- `pascal::lent::Rows::of_table`: the table, tested as a whole.
use Rattle.std.proofs.Common.{refl}
use Rattle.numbers.proofs.Tables.{same}
use Rattle.numbers.proofs.Weighted.{step, rows}
use Rattle.pascal.proofs.Tested.{ruled}
use Rattle.pascal.proofs.lent.Rows.of_table.Goals as goal

pub invariant_of-result : goal.invariant_of-result
unfolding same rows step
invariant_of-result c = record { triangle = ruled _ refl }
