-- `set_partition_ranks::write` meets its contract: the last model by the rank, and the others by what is left of it.
use Rattle.std.proofs.Common.{ℕ, ◌-◌, arith}
use Rattle.set_partition_ranks.proofs.Ranks.{Put, ToWrite, block_there, joined-there, all_there, last-put, others_reached, rest_below, written, alone_written}
use Rattle.set_partition_ranks.proofs.+write.Given.{Over}
use Rattle.set_partition_ranks.proofs.+write.Goals as goal
use Rattle.set_partition_ranks.proofs.+write.Goals.{Else-size, After-place_at-last}

-- past the test for as many blocks as models
to_write : (g : Over) (t : ℕ) (c : Else-size g t) → ToWrite c.args.size.n c.args.size.k c.args.rank c.args.blocks.now
to_write g t c = let r = c.requires in record { fewer = c.if-size.false; below = r.rank_bound; fits = c.args.size.in_limits.1; alone = r.blocks_value }

-- past the place of the rank
put : (g : Over) (t : ℕ) (c : After-place_at-last g t) → ToWrite c.args.size.n c.args.size.k c.args.rank c.args.blocks.now → Put c.args.edition (c.args.size.n - 1) (c.args.size.k - 1) c.args.size.n c.args.size.k c.args.rank c.args.blocks.now c.place_at-last.result.key c.place_at-last.result.rank
put g t c q = last-put q c.split-split.ensures.numbers c.place_at-last.ensures

pub returns-then-size : goal.returns-then-size
returns-then-size g t c = alone_written c.args.edition c.args.size.n c.args.size.k c.args.rank c.args.blocks.now c.if-size.true c.requires.rank_bound c.requires.blocks_value

pub split-split-requires-clause-inside : goal.split-split-requires-clause-inside
split-split-requires-clause-inside g t c = (block_there (to_write g t (goal.at.split-split-requires-clause-inside g t c).Else-size), c.if-size.false)

pub place_at-last-requires-clause-joined_nonzero : goal.place_at-last-requires-clause-joined_nonzero
place_at-last-requires-clause-joined_nonzero g t c =
    let q = to_write g t (goal.at.place_at-last-requires-clause-joined_nonzero g t c).Else-size in
    (joined-there q c.split-split.ensures.numbers, omega (arith, all_there q c.split-split.ensures.numbers, q.below))

pub place_at-last-requires-clause-joined_bound : goal.place_at-last-requires-clause-joined_bound
place_at-last-requires-clause-joined_bound g t c =
    let q = to_write g t (goal.at.place_at-last-requires-clause-joined_bound g t c).Else-size in
    omega (arith, all_there q c.split-split.ensures.numbers, q.fits)

pub block_of-requires : goal.block_of-requires
block_of-requires g t c =
    let at = goal.at.block_of-requires g t c in
    let q = to_write g t at.Else-size in
    (block_there q, (omega (arith, q.fewer), (put g t at.After-place_at-last q).upto))

pub others-requires : goal.others-requires
others-requires g t c = (block_there (to_write g t (goal.at.others-requires g t c).Else-size), c.if-size.false)

pub write-requires : goal.write-requires
write-requires g t c κs within =
    let at = goal.at.write-requires g t c in
    let q = to_write g t at.Else-size in
    let p = put g t at.After-place_at-last q in
    let o = c.others.ensures in
    let s = c.split-split.ensures in
    let there = others_reached (λ at i. g.S.Source.reaches c.args.source at (c.args.size.n - 1) i) c.args.size.k c.place_at-last.result.key (block_there q) s.alone s.joined c.others_at.ensures.alone c.others_at.ensures.joined o.1 in
    (omega (arith, c.decreases, o.0, c.if-size.false), (within, rw o.0 (rest_below p o.1, (p.alone _, there))))

pub returns : goal.returns
returns g t c =
    let at = goal.at.returns g t c in
    written (put g t at.After-place_at-last (to_write g t at.Else-size)) c.others.ensures.1 {y = c.write.new.blocks} c.block_of.ensures (rw c.others.ensures.0 at c.write.ensures)
