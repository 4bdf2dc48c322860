-- The first letters are raised, and the others are as they were.
use Rattle.std.proofs.Common.{◌≡◌, ◌++◌, map, take, drop}
use Rattle.anagram_ranks.specs.Inner.Raised.{raised}
use Rattle.anagram_ranks.proofs.permutations.raise.Given as goal

abbrev pub invariant-loop-letter : goal.invariant-loop-letter
invariant-loop-letter l = l.part ≡ map (raised l.a) (take l.letter-index l.initial.part) ++ drop l.letter-index l.initial.part
