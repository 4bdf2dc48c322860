-- `counting::short::catalan` meets its contract: the table has the Catalan numbers below 2^64, as they compute, and no other is below it.
use Rattle.std.proofs.Common.{◌≡◌, map, refl, arith}
use Rattle.basics.specs.Sums.{range, sum_over}
use Rattle.numbers.specs.Numbers.{catalan_of, catalans_down}
use Rattle.numbers.proofs.Catalans.{catalan_small, catalan_large}
use Rattle.counting.specs.declared.short.TheConstants.{CATALANS}
use Rattle.counting.proofs.Tables.{number_read}
use Rattle.counting.proofs.short.catalan.Goals as goal

table : CATALANS ≡ map catalan_of (range 0 37)
unfolding catalan_of catalans_down range sum_over
table = refl

pub returns : goal.returns
returns c = rw c.copied.ensures (number_read catalan_of 37 c.args.n table (λ h. catalan_small (omega arith)) (λ h. catalan_large (omega arith)) c.get.result c.get.ensures.lookup)
