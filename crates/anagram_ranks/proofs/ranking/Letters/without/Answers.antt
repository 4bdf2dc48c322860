-- The share of one letter is the number of words of the letters that are left then.
use Rattle.std.proofs.Common.{arith}
use Rattle.numbers.proofs.Laws.{one_less-set}
use Rattle.anagram_ranks.proofs.Ranks.{letter_le, taken}
use Rattle.anagram_ranks.proofs.ranking.Letters.without.Goals as goal

pub share-words-requires : goal.share-words-requires
share-words-requires c = let b = letter_le c.args.self.counts.now c.args.place in (omega arith, omega arith)

pub overflow_sub-result : goal.overflow_sub-result
overflow_sub-result c = omega (arith, letter_le c.args.self.counts.now c.args.place)

pub invariant_of-result : goal.invariant_of-result
invariant_of-result c =
    let s = c.args.self in
    let (t, w) = taken s.counts.now c.args.place _ s.size s.words _ c.from.ensures c.requires.1 s.sized s.counted c.share-words.ensures in
    record { sized = t; short = omega arith; counted = w }

pub returns : goal.returns
returns c = one_less-set c.args.self.counts.now c.args.place
