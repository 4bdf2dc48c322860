-- Each number fits, since that of n places does.
use Rattle.std.proofs.Common.{◌∙◌, arith}
use Rattle.counting.proofs.Answers.{if_small}
use Rattle.derangement_ranks.proofs.Ranks.{both_fit}
use Rattle.derangement_ranks.proofs.keys.LeftCounts.of.Goals as goal

pub invariant_of-result-clause-longer_is : goal.invariant_of-result-clause-longer_is
invariant_of-result-clause-longer_is c = c.derangement_that_fits.ensures ∙ if_small (both_fit c.args.n (omega arith) c.requires.fits).0

pub invariant_of-result-clause-shorter_is : goal.invariant_of-result-clause-shorter_is
invariant_of-result-clause-shorter_is c = c.derangement_that_fits-2.ensures ∙ if_small (both_fit c.args.n (omega arith) c.requires.fits).1
