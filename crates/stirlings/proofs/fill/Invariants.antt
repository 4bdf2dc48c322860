-- `stirlings::fill`: the rows up to row d are there.
use Rattle.std.proofs.Common.{◌+◌}
use Rattle.stirlings.specs.Inner.Band.{Filled}
use Rattle.stirlings.proofs.fill.Given as goal

abbrev pub invariant-loop-d : goal.invariant-loop-d
invariant-loop-d l = Filled l.t l.w (l.d + 1)
