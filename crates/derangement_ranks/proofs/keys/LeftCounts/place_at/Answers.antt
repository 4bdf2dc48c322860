-- The key is below n or not by the rank, and then it is found by division.
use Rattle.std.proofs.Common.{arith}
use Rattle.derangement_ranks.proofs.Ranks.{counted_left, placed_cycle, in_pair}
use Rattle.derangement_ranks.proofs.keys.LeftCounts.place_at.Goals as goal

pub overflow_mul-before : goal.overflow_mul-before
overflow_mul-before c = omega (arith, (counted_left c.args.self).all, c.args.self.fits)

pub returns-then-rank-before : goal.returns-then-rank-before
returns-then-rank-before c = placed_cycle c.args.self.n c.args.rank c.args.self.longer c.args.self.shorter c.if-rank-before.true

pub nonzero_div-result-2 : goal.nonzero_div-result-2
nonzero_div-result-2 c = (in_pair c.args.self c.args.rank c.if-rank-before.false c.requires).0

pub overflow_add-result-2 : goal.overflow_add-result-2
overflow_add-result-2 c = omega (arith, (in_pair c.args.self c.args.rank c.if-rank-before.false c.requires).1.upto, c.args.self.bounds)

pub overflow_cast-result-2 : goal.overflow_cast-result-2
overflow_cast-result-2 c = omega (arith, (in_pair c.args.self c.args.rank c.if-rank-before.false c.requires).1.upto, c.args.self.bounds)

pub nonzero_rem-result-2 : goal.nonzero_rem-result-2
nonzero_rem-result-2 c = (in_pair c.args.self c.args.rank c.if-rank-before.false c.requires).0

pub returns : goal.returns
returns c = (in_pair c.args.self c.args.rank c.if-rank-before.false c.requires).1
