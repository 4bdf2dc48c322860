-- The letters in front are read.
use Rattle.anagram_ranks.proofs.Fronts.{Read}
use Rattle.anagram_ranks.proofs.ranking.rank_of.Given as goal

abbrev pub invariant-loop-letter : goal.invariant-loop-letter
invariant-loop-letter l = let (counts, left) = l.left in let (size, words) = left in Read l.fn.counts l.object counts.now size words.0 l.rank l.letter-index
