-- `pascal::entry` meets its contract: beside the triangle there is nothing.
use Rattle.std.proofs.Common.{sym}
use Rattle.numbers.proofs.Binomials.{choose-none}
use Rattle.pascal.proofs.entry.Goals as goal

pub returns-then-n-k : goal.returns-then-n-k
returns-then-n-k c = sym (choose-none c.args.n c.args.k c.if-n-k.true)
