-- `pascal::lent::Rows::climb`: the array has the window before k of the row that was reached.
use Rattle.pascal.proofs.Windows.{Reached}
use Rattle.pascal.proofs.lent.Rows.climb.Given as goal

abbrev pub invariant-loop-left : goal.invariant-loop-left
invariant-loop-left l = Reached l.n l.k l.w l.left
