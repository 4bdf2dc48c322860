-- `stirlings::next_row`: the first numbers of the next row stand, the last of them is at hand, and all others are as they were.
use Rattle.std.proofs.Common.{◌+◌, ◌-◌}
use Rattle.stirlings.proofs.Rows.{Doing}
use Rattle.stirlings.proofs.next_row.Given as goal

abbrev pub invariant-loop-at : goal.invariant-loop-at
invariant-loop-at l = Doing l.fn.t l.t l.d (l.above + l.stride) l.left (l.at - l.above)
