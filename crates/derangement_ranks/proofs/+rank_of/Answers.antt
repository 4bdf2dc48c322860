-- Behind the derangements with a smaller key, where what is left stands.
use Rattle.std.proofs.Common.{arith}
use Rattle.derangement_ranks.proofs.Ranks.{two_where_object, rest, empty_at}
use Rattle.derangement_ranks.proofs.+rank_of.Goals as goal

pub returns-then-n-eq0 : goal.returns-then-n-eq0
returns-then-n-eq0 t c = empty_at c.args.object.now c.if-n-eq0.true

pub of-counts-requires-clause-bounds : goal.of-counts-requires-clause-bounds
of-counts-requires-clause-bounds t c = (two_where_object _ c.args.object.now c.if-n-eq0.false c.requires.object_value, omega arith)

pub earlier-requires-clause-fits : goal.earlier-requires-clause-fits
earlier-requires-clause-fits t c = omega (arith, c.of-counts.result.fits, (rest c.of-counts.result c.of-counts.ensures c.take_apart-key.auto.object c.take_apart-key.ensures c.left_of-left.ensures).below)

pub slice_bounds-rank_of-end : goal.slice_bounds-rank_of-end
slice_bounds-rank_of-end t c = (rest c.of-counts.result c.of-counts.ensures c.take_apart-key.auto.object c.take_apart-key.ensures c.left_of-left.ensures).within

pub slice_bounds-rank_of-end-2 : goal.slice_bounds-rank_of-end-2
slice_bounds-rank_of-end-2 t c = (rest c.of-counts.result c.of-counts.ensures c.take_apart-key.auto.object c.take_apart-key.ensures c.left_of-left.ensures).size

pub rank_of-requires : goal.rank_of-requires
rank_of-requires t c =
    let r = rest c.of-counts.result c.of-counts.ensures c.take_apart-key.auto.object c.take_apart-key.ensures c.left_of-left.ensures in
    (omega (arith, r.less, c.decreases), (omega (arith, r.less), (r.object, omega (arith, r.fewer, c.of-counts.result.fits))))

pub overflow_add-result : goal.overflow_add-result
overflow_add-result t c =
    let r = rest c.of-counts.result c.of-counts.ensures c.take_apart-key.auto.object c.take_apart-key.ensures c.left_of-left.ensures in
    omega (arith, r.under _ c.rank_of.ensures, c.earlier.ensures, c.of-counts.result.fits)

pub returns : goal.returns
returns t c =
    let r = rest c.of-counts.result c.of-counts.ensures c.take_apart-key.auto.object c.take_apart-key.ensures c.left_of-left.ensures in
    rw c.earlier.ensures (r.stands _ c.rank_of.ensures)
