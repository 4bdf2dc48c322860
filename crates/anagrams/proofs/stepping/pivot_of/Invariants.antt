-- No letter from the one in front of `tail` on precedes a later one.
use Rattle.std.proofs.Common.{drop, ◌-◌}
use Rattle.anagrams.specs.Inner.Directions.{Spent}
use Rattle.anagrams.proofs.stepping.pivot_of.Given as goal

abbrev pub invariant-loop-tail : goal.invariant-loop-tail
invariant-loop-tail l = Spent l.up (drop (l.tail - 1) l.object)
