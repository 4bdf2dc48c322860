-- The letters of the first i counts are written.
use Rattle.anagrams.proofs.Places.{Written}
use Rattle.anagrams.proofs.first.Given as goal

abbrev pub invariant-loop-i : goal.invariant-loop-i
invariant-loop-i l = Written l.counts l.object l.start l.i
