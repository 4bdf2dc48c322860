-- A letter that is left is taken, and at one that is not the word fails.
use Rattle.std.proofs.Common.{arith, sym, ◌∙◌}
use Rattle.anagrams.proofs.Testing.{letter_spent, no_letter, no_more}
use Rattle.anagrams.proofs.letters.spend_all.Goals as goal

pub returns-in_default : goal.returns-in_default
returns-in_default c = let l = c.loop-letter in sym (l.invariant ∙ no_letter l.left _ l.letter-index (omega arith) c.in_default.ensures)

pub loop-letter-preserved : goal.loop-letter-preserved
loop-letter-preserved c = let l = c.loop-letter in let (is, some) = c.in-Some.ensures in l.invariant ∙ letter_spent l.left _ l.letter-index _ (omega arith) is some

pub returns : goal.returns
returns c = let l = c.loop-letter in c.none_left.ensures ∙ sym (l.invariant ∙ no_more l.left _ l.letter-index (omega arith))
