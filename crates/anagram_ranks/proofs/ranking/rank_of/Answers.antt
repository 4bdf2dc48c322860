-- A word of the letters left starts with one of them.
use Rattle.std.proofs.Common.{arith}
use Rattle.anagram_ranks.proofs.Fronts.{read_none, first_of_rest, read_fits, read_more, read_all}
use Rattle.anagram_ranks.proofs.ranking.rank_of.Goals as goal

pub loop-letter-init : goal.loop-letter-init
loop-letter-init c = let p = c.requires in read_none _ _ p.counts_bound p.object_value p.words_value

pub overflow_sub-place : goal.overflow_sub-place
overflow_sub-place c = (first_of_rest c.loop-letter.invariant _ c.from-place.ensures c.loop-letter-test.true).0

pub earlier-rank-requires : goal.earlier-rank-requires
earlier-rank-requires c =
    let k = c.loop-letter.invariant in
    let (_, t) = first_of_rest k _ c.from-place.ensures c.loop-letter-test.true in
    (omega arith, omega (arith, k.left.sized))

pub overflow_add-rank : goal.overflow_add-rank
overflow_add-rank c = omega (arith, read_fits c.loop-letter.invariant _ c.from-place.ensures c.loop-letter-test.true c.earlier-rank.ensures)

pub without-left-requires : goal.without-left-requires
without-left-requires c = let (_, t) = first_of_rest c.loop-letter.invariant _ c.from-place.ensures c.loop-letter-test.true in (t.inside, t.left)

pub loop-letter-preserved : goal.loop-letter-preserved
loop-letter-preserved c =
    let r = c.without-left.result in
    read_more c.loop-letter.invariant _ c.from-place.ensures c.loop-letter-test.true c.earlier-rank.ensures c.without-left.ensures record { sized = r.sized; short = r.short; counted = r.counted }

pub returns : goal.returns
returns c = read_all c.loop-letter.invariant c.loop-letter-test.false
