-- The letters from place i on are a permutation of their own.
use Rattle.anagram_ranks.proofs.FactorialDigits.{Written}
use Rattle.anagram_ranks.proofs.permutations.unrank.Given as goal

abbrev pub invariant-loop-i : goal.invariant-loop-i
invariant-loop-i l = Written l.rank l.object l.rest l.i
