-- The first word turned round is the last.
use Rattle.anagrams.proofs.Places.{first_turned}
use Rattle.anagrams.proofs.last.Goals as goal

pub returns : goal.returns
returns c = rw c.reverse.ensures.after (first_turned _ _ c.first.ensures)
