-- `counting::short::derangement` meets its contract: the table has the derangement numbers below 2^64, as they compute, and no other is below it.
use Rattle.std.proofs.Common.{◌≡◌, map, refl, arith}
use Rattle.basics.specs.Sums.{range}
use Rattle.numbers.specs.Numbers.{derangements_of}
use Rattle.numbers.proofs.Derangements.{derangement_small, derangement_large}
use Rattle.counting.specs.declared.short.TheConstants.{DERANGEMENTS}
use Rattle.counting.proofs.Tables.{number_read}
use Rattle.counting.proofs.short.derangement.Goals as goal

table : DERANGEMENTS ≡ map derangements_of (range 0 21)
unfolding derangements_of range
table = refl

pub returns : goal.returns
returns c = rw c.copied.ensures (number_read derangements_of 21 c.args.n table (λ h. derangement_small (omega arith)) (λ h. derangement_large (omega arith)) c.get.result c.get.ensures.lookup)
