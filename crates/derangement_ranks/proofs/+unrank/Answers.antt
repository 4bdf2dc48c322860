-- The key by the rank, and the derangement left by what is left of the rank.
use Rattle.std.proofs.Common.{arith}
use Rattle.derangement_ranks.proofs.Ranks.{two_where_some, front, only_empty}
use Rattle.derangement_ranks.proofs.+unrank.Goals as goal

pub returns-then-n-eq0 : goal.returns-then-n-eq0
returns-then-n-eq0 t c = only_empty c.args.object.now c.args.rank c.if-n-eq0.true c.requires.rank_bound

pub of-requires-clause-bounds : goal.of-requires-clause-bounds
of-requires-clause-bounds t c = (two_where_some _ c.args.rank c.if-n-eq0.false c.requires.rank_bound, omega arith)

pub slice_bounds-unrank-end : goal.slice_bounds-unrank-end
slice_bounds-unrank-end t c = (front c.args.object.now c.of.result c.of.ensures c.place_at-place.ensures c.left_of-left.ensures).within

pub slice_bounds-unrank-end-2 : goal.slice_bounds-unrank-end-2
slice_bounds-unrank-end-2 t c = (front c.args.object.now c.of.result c.of.ensures c.place_at-place.ensures c.left_of-left.ensures).size

pub unrank-requires : goal.unrank-requires
unrank-requires t c =
    let f = front c.args.object.now c.of.result c.of.ensures c.place_at-place.ensures c.left_of-left.ensures in
    (omega (arith, f.less, c.decreases), (omega (arith, f.less), (omega (arith, f.fewer), f.below)))

pub put_together-requires-clause-keyed : goal.put_together-requires-clause-keyed
put_together-requires-clause-keyed t c =
    ((front c.args.object.now c.of.result c.of.ensures c.place_at-place.ensures c.left_of-left.ensures).written _ c.unrank.ensures).keyed

pub returns : goal.returns
returns t c =
    let f = front c.args.object.now c.of.result c.of.ensures c.place_at-place.ensures c.left_of-left.ensures in
    rw (c.put_together.ensures, (f.written _ c.unrank.ensures).joined) (f.stands _ c.unrank.ensures)
