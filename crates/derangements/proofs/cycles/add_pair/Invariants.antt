-- The labels passed have moved up, and the others are as they were.
use Rattle.std.proofs.Common.{◌≡◌, ◌++◌, map, take, drop}
use Rattle.derangements.specs.Cycles.{raised}
use Rattle.derangements.proofs.cycles.add_pair.Given as goal

abbrev pub invariant-loop-label : goal.invariant-loop-label
invariant-loop-label l =
    let x = l.initial.label-items in
    l.label-items ≡ map (raised l.c) (take l.label-index x) ++ drop l.label-index x
