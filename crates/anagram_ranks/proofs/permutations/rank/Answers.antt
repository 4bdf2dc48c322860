-- The letters are those of a permutation, which make as many words as there are permutations.
use Rattle.std.proofs.Common.{arith, length, sym, ◌∙◌}
use Rattle.numbers.proofs.Laws.{multinomial_ones}
use Rattle.anagrams.proofs.Facts.{each_once}
use Rattle.anagram_ranks.proofs.permutations.rank.Goals as goal

pub rank_of-requires-clause-counts_bound : goal.rank_of-requires-clause-counts_bound
rank_of-requires-clause-counts_bound c = let n = length c.args.object.now in omega (arith, each_once n _ c.requires.object_len_bound (c.all_ones.ensures.1 n (omega arith)))

pub rank_of-requires-clause-words_value : goal.rank_of-requires-clause-words_value
rank_of-requires-clause-words_value c = let n = length c.args.object.now in c.all_permutations.ensures ∙ sym (rw (c.all_ones.ensures.1 n (omega arith)) (multinomial_ones n))
