-- `largest_top`: out of the numbers up to the last one tried, more subsets than the rank can be made.
use Rattle.std.proofs.Common.{◌<◌, ◌≤◌}
use Rattle.numbers.specs.Numbers.{choose}
use Rattle.subsets.proofs.search.largest_top.Given as goal

abbrev pub invariant-loop-rank : goal.invariant-loop-rank
invariant-loop-rank l = (l.top ≤ l.n) × (l.rank < choose l.top l.k)

abbrev pub decreases-loop-rank : goal.decreases-loop-rank
decreases-loop-rank l = l.top
