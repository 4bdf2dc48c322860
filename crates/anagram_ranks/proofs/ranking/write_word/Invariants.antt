-- The letters in front are written.
use Rattle.anagram_ranks.proofs.Fronts.{Written}
use Rattle.anagram_ranks.proofs.ranking.write_word.Given as goal

abbrev pub invariant-loop-letter : goal.invariant-loop-letter
invariant-loop-letter l = let (counts, left) = l.left in let (size, words) = left in Written l.fn.counts l.fn.rank counts.now size words.0 l.object l.rest l.letter-index
