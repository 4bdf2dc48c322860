-- What is left of the line falls.
use Rattle.std.proofs.Common.{length}
use Rattle.test_walks.proofs.legs.Given as goal

abbrev pub decreases-loop-rest : goal.decreases-loop-rest
decreases-loop-rest g l = length l.rest
