-- `part_to_lower`: no part passed, but the first, is above the one tried.
use Rattle.integer_partitions.specs.Inner.Searches.{Level}
use Rattle.integer_partitions.proofs.search.part_to_lower.Given as goal

abbrev pub invariant-loop-i : goal.invariant-loop-i
invariant-loop-i l = Level l.floor l.object l.i
