-- `set_partition_ranks::rank_of` meets its contract: through the rank of the others, of which there is one fewer.
use Rattle.std.proofs.Common.{ℕ, ◌+◌, ◌-◌, arith}
use Rattle.set_partition_ranks.proofs.Ranks.{RankBy, Asked, some_block, rank_fits, before-fits, others_keyed, others_reached, summed, no_other}
use Rattle.set_partition_ranks.proofs.+rank_of.Given.{Over}
use Rattle.set_partition_ranks.proofs.+rank_of.Goals as goal
use Rattle.set_partition_ranks.proofs.+rank_of.Goals.{Else-size, After-rank_of}

-- past the test for as many blocks as models
asked : (g : Over) (t : ℕ) (c : Else-size g t) → Asked c.args.size.n c.args.size.k c.args.keys.now
asked g t c = record { fewer = c.if-size.false; keyed = c.requires.keys_of; fits = c.args.size.in_limits.1 }

pub returns-then-size : goal.returns-then-size
returns-then-size g t c = no_other c.args.edition c.args.size.n c.args.size.k c.args.keys.now c.if-size.true

pub split-split-requires-clause-inside : goal.split-split-requires-clause-inside
split-split-requires-clause-inside g t c = (some_block c.args.edition (asked g t (goal.at.split-split-requires-clause-inside g t c).Else-size), c.if-size.false)

pub earlier-before-requires : goal.earlier-before-requires
earlier-before-requires g t c = rw c.from-key.ensures (before-fits c.args.edition (asked g t (goal.at.earlier-before-requires g t c).Else-size) c.split-split.ensures.numbers)

pub others-requires : goal.others-requires
others-requires g t c = (some_block c.args.edition (asked g t (goal.at.others-requires g t c).Else-size), c.if-size.false)

pub rank_of-requires : goal.rank_of-requires
rank_of-requires g t c κs within =
    let q = asked g t (goal.at.rank_of-requires g t c).Else-size in
    let s = c.split-split.ensures in
    let o = c.others.ensures in
    let there = others_reached (λ at i. g.S.Source.reaches c.args.source at (c.args.size.n - 1) i) c.args.size.k c.from-key.result (some_block c.args.edition q) s.alone s.joined c.others_at.ensures.alone c.others_at.ensures.joined o.1 in
    (omega (arith, c.decreases, o.0, c.if-size.false), (within, rw o.0 (others_keyed c.args.edition q (rw c.from-key.ensures at o.1), there)))

sum_is : (g : Over) (t : ℕ) (c : After-rank_of g t) → Asked c.args.size.n c.args.size.k c.args.keys.now → RankBy c.args.edition c.args.size.n c.args.size.k c.args.keys.now (c.earlier-before.result + c.rank_of.result)
sum_is g t c q = summed c.args.edition q (rw c.from-key.ensures at c.others.ensures.1) c.split-split.ensures.numbers (rw c.from-key.ensures at c.earlier-before.ensures) (rw c.others.ensures.0 at c.rank_of.ensures)

pub overflow_add-result : goal.overflow_add-result
overflow_add-result g t c =
    let at = goal.at.overflow_add-result g t c in
    let q = asked g t at.Else-size in
    omega (arith, rank_fits c.args.edition q (sum_is g t at.After-rank_of q))

pub returns : goal.returns
returns g t c = sum_is g t (goal.at.returns g t c).After-rank_of (asked g t (goal.at.returns g t c).Else-size)
