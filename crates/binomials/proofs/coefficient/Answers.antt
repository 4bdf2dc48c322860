-- `binomials::coefficient` meets its contract: what the parts of the three factorials make, tested over the whole triangle.
use Rattle.std.proofs.Common.{sym, arith}
use Rattle.numbers.proofs.Binomials.{choose-none}
use Rattle.binomials.proofs.Tested.{made_of_lem}
use Rattle.binomials.proofs.coefficient.Goals as goal

pub returns-then-n-k : goal.returns-then-n-k
returns-then-n-k c = sym (choose-none c.args.n c.args.k c.if-n-k.true)

pub overflow_add-result : goal.overflow_add-result
overflow_add-result c = let m = made_of_lem c.args.n c.args.k (omega arith) (omega arith) in record { fits = omega (arith, m.fewer) }

pub overflow_sub-result : goal.overflow_sub-result
overflow_sub-result c = let m = made_of_lem c.args.n c.args.k (omega arith) (omega arith) in omega (arith, m.fewer)

pub overflow_shl-result : goal.overflow_shl-result
overflow_shl-result c = let m = made_of_lem c.args.n c.args.k (omega arith) (omega arith) in omega (arith, m.few)

pub returns : goal.returns
returns c =
    let t = c.parts_of-taken.ensures in
    let l = c.parts_of-left.ensures in
    let a = c.parts_of-all.ensures in
    simp (t.inverse, t.twos, l.inverse, l.twos, a.odd, a.twos) ((made_of_lem c.args.n c.args.k (omega arith) (omega arith)).made c.requires.1)
