-- The words of the two parts of the rank, put together.
use Rattle.std.proofs.Common.{◌≡◌, ◌+◌, ◌*◌, ap, arith}
use Rattle.numbers.specs.Numbers.{catalan_of}
use Rattle.numbers.proofs.Laws.{catalan_zero}
use Rattle.dyck_words.proofs.Lent.{inside-length, laid}
use Rattle.dyck_ranks.proofs.Ranks.{empty_at, fewer_fit, shared, unranked}
use Rattle.dyck_ranks.proofs.ranking.+write_word.Goals as goal

pub returns-then-n-eq0 : goal.returns-then-n-eq0
returns-then-n-eq0 t c =
    let zeroth : c.args.rank ≡ 0 = omega (arith, ap catalan_of c.if-n-eq0.true, catalan_zero) in
    rw zeroth (empty_at c.if-n-eq0.true c.requires.object_len)

pub write_word-requires : goal.write_word-requires
write_word-requires t c =
    let p = shared c.inside_of_rank-j.ensures.1 c.inside_of_rank-j.ensures.2 c.ways-rests.ensures in
    (omega (arith, c.decreases), (omega (arith, inside-length c.args.object.now (2 * c.inside_of_rank-j.result.size + 1) (omega arith)), (fewer_fit _ c.args.n (omega arith) c.requires.n_bound, p.inside)))

pub write_word-requires-2 : goal.write_word-requires-2
write_word-requires-2 t c =
    let p = shared c.inside_of_rank-j.ensures.1 c.inside_of_rank-j.ensures.2 c.ways-rests.ensures in
    let l = laid c.args.object.now c.write_word.new.object (2 * c.inside_of_rank-j.result.size + 1) (omega arith) (omega arith) c.write_word.auto.object in
    (omega (arith, c.decreases), (omega (arith, l.rest_lent), (fewer_fit _ c.args.n (omega arith) c.requires.n_bound, p.rest)))

pub returns : goal.returns
returns t c =
    let p = shared c.inside_of_rank-j.ensures.1 c.inside_of_rank-j.ensures.2 c.ways-rests.ensures in
    let l = laid c.args.object.now c.write_word.new.object (2 * c.inside_of_rank-j.result.size + 1) (omega arith) (omega arith) c.write_word.auto.object in
    unranked c.args.n c.if-n-eq0.false c.inside_of_rank-j.ensures.0 p c.write_word.ensures c.write_word-2.ensures (l.whole c.write_word-2.new.object)
