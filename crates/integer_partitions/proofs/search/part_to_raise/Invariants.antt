-- `part_to_raise`: no part passed can go up, and the sum of those is at hand.
use Rattle.std.proofs.Common.{◌≡◌, take}
use Rattle.basics.specs.Sums.{total}
use Rattle.integer_partitions.specs.Inner.Searches.{Full}
use Rattle.integer_partitions.proofs.search.part_to_raise.Given as goal

abbrev pub invariant-loop-i : goal.invariant-loop-i
invariant-loop-i l = (l.front ≡ total (take l.i l.object)) × (Full l.object l.i)
