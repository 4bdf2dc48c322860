-- `stirling_rows::entry` meets its contract: the ends of a row by their laws, and the others by the test.
use Rattle.std.proofs.Common.{◌∙◌, sym, ap, arith}
use Rattle.numbers.specs.Numbers.{stirling_of}
use Rattle.numbers.proofs.Stirlings.{stirling_all, stirling_none}
use Rattle.stirling_rows.proofs.Ends.{short}
use Rattle.stirling_rows.proofs.Tested.{there}
use Rattle.stirling_rows.proofs.entry.Goals as goal

pub returns-then-k-n : goal.returns-then-k-n
returns-then-k-n c = sym (ap (stirling_of c.args.n) c.if-k-n.true ∙ stirling_all c.args.n)

pub returns-then-n-k : goal.returns-then-n-k
returns-then-n-k c = sym (stirling_none c.args.n c.args.k c.if-n-k.true)

pub returns-then-k-lt2 : goal.returns-then-k-lt2
returns-then-k-lt2 c = short c.args.n c.args.k c.if-k-lt2.true (omega (arith, c.if-k-n.false))

pub returns : goal.returns
returns c = rw c.place.ensures.value (there c.args.n c.args.k (omega arith) (omega arith) (omega (arith, c.if-k-n.false)))
