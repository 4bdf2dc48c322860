-- `counting::short::factorial` meets its contract: the table has the factorials below 2^64, as they compute, and no other is below it.
use Rattle.std.proofs.Common.{◌≡◌, map, refl, arith}
use Rattle.basics.specs.Sums.{range}
use Rattle.numbers.specs.Numbers.{factorial_of}
use Rattle.numbers.proofs.Factorials.{factorial_small, factorial_large}
use Rattle.counting.specs.declared.short.TheConstants.{FACTORIALS}
use Rattle.counting.proofs.Tables.{number_read}
use Rattle.counting.proofs.short.factorial.Goals as goal

table : FACTORIALS ≡ map factorial_of (range 0 21)
unfolding factorial_of range
table = refl

pub returns : goal.returns
returns c = rw c.copied.ensures (number_read factorial_of 21 c.args.n table (λ h. factorial_small (omega arith)) (λ h. factorial_large (omega arith)) c.get.result c.get.ensures.lookup)
