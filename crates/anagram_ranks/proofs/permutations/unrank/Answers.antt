-- The digit of the rank is the letter that is put in front.
use Rattle.std.proofs.Common.{arith, refl, ◌≡◌, ◌+◌, ◌-◌}
use Rattle.anagram_ranks.proofs.FactorialDigits.{written_none, letters_small, written_more, written_all}
use Rattle.anagram_ranks.proofs.permutations.unrank.Goals as goal

pub loop-i-init : goal.loop-i-init
loop-i-init c = written_none _ _

pub raise-requires : goal.raise-requires
raise-requires c = let l = c.loop-i in let behind : l.i - 1 + 1 ≡ l.i = omega arith in rw behind (letters_small (omega arith) l.invariant)

pub loop-i-preserved : goal.loop-i-preserved
loop-i-preserved c =
    let l = c.loop-i in
    let behind : l.i - 1 + 1 ≡ l.i = omega arith in
    rw behind (written_more {i = l.i - 1} _ _ c.raise.new.part (omega arith) (omega arith) refl (rw behind at c.raise.ensures) l.invariant).1

pub returns : goal.returns
returns c = let l = c.loop-i in rw l.auto.object at (written_all (omega arith) (rw l.auto.object c.requires.rank_bound) l.invariant)
