-- `stirlings::stirling`: row d is there.
use Rattle.std.proofs.Common.{◌+◌}
use Rattle.stirlings.specs.Inner.Band.{Stands}
use Rattle.stirlings.proofs.stirling.Given as goal

abbrev pub invariant-loop-d : goal.invariant-loop-d
invariant-loop-d l = Stands l.row 0 (l.k + 1) l.d
