-- `pascal::lent::Rows::last_row`: each index passed has its entry.
use Rattle.std.proofs.Common.{◌≡◌, ℕ, ◌<◌, get_or}
use Rattle.pascal.specs.Inner.Triangle.{last_row}
use Rattle.pascal.specs.Inner.Window.{back}
use Rattle.pascal.proofs.lent.Rows.last_row.Given as goal

abbrev pub invariant-loop-i : goal.invariant-loop-i
invariant-loop-i l = (j : ℕ) → j < l.i → get_or l.entry-items j 0 ≡ back last_row l.k j
