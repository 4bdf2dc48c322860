-- What is left of the line falls.
use Rattle.std.proofs.Common.{length}
use Rattle.test_checks.proofs.each_list.Given as goal

abbrev pub decreases-loop-rest : goal.decreases-loop-rest
decreases-loop-rest g l = length l.rest
