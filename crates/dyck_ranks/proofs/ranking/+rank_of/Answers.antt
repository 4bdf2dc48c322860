-- A word stands where its inside and its rest say.
use Rattle.std.proofs.Common.{ℕ, ◌+◌, ◌*◌, ◌<◌, ◌^◌, refl, arith}
use Rattle.listings.specs.Places.{At}
use Rattle.listings.proofs.PlaceRules.{at_below}
use Rattle.dyck_words.specs.Listing.{dyck_words}
use Rattle.dyck_words.proofs.Theorem.{long, counted}
use Rattle.dyck_words.proofs.Lent.{rest_told, inside-told}
use Rattle.dyck_ranks.proofs.Ranks.{empty_at, fewer_fit}
use Rattle.dyck_ranks.proofs.Cutting.{cut, inside_fits, inner_word, outer_word, ranked}
use Rattle.dyck_ranks.proofs.ranking.+rank_of.Goals as goal
use Rattle.dyck_ranks.proofs.ranking.+rank_of.Goals.{After-ways}

pub returns-then-n-eq0 : goal.returns-then-n-eq0
returns-then-n-eq0 t c = empty_at c.if-n-eq0.true (long c.args.n c.args.object.now c.requires.object_value)

pub bounds-rows-1 : goal.bounds-rows-1
bounds-rows-1 t c = omega (arith, inside_fits c.requires.object_value c.if-n-eq0.false c.requires.rows_told)

pub rank_of-inside_rank-requires : goal.rank_of-inside_rank-requires
rank_of-inside_rank-requires t c =
    let p = cut c.args.n c.args.object.now c.requires.object_value c.if-n-eq0.false c.requires.rows_told in
    (omega (arith, c.decreases, p.within), (inner_word p, (inside-told p.parts refl c.requires.rows_told, fewer_fit _ c.args.n (omega (arith, p.within)) c.requires.n_bound)))

pub rank_of-rest_rank-requires : goal.rank_of-rest_rank-requires
rank_of-rest_rank-requires t c =
    let p = cut c.args.n c.args.object.now c.requires.object_value c.if-n-eq0.false c.requires.rows_told in
    (omega (arith, c.decreases), (outer_word p, (rest_told p.parts c.requires.rows_told, fewer_fit _ c.args.n (omega arith) c.requires.n_bound)))

-- where the word stands
stands : (t : ℕ) (c : After-ways t) → At (dyck_words c.args.n) c.args.object.now (c.shorter_insides.result + c.rank_of-inside_rank.result * c.ways.result + c.rank_of-rest_rank.result)
stands t c =
    let p = cut c.args.n c.args.object.now c.requires.object_value c.if-n-eq0.false c.requires.rows_told in
    ranked p c.rank_of-inside_rank.result c.rank_of-rest_rank.result c.if-n-eq0.false c.rank_of-inside_rank.ensures c.rank_of-rest_rank.ensures c.shorter_insides.ensures c.ways.ensures

-- so the rank fits
below : (t : ℕ) (c : After-ways t) → c.shorter_insides.result + c.rank_of-inside_rank.result * c.ways.result + c.rank_of-rest_rank.result < 2 ^ 64
below t c = omega (arith, at_below (dyck_words c.args.n) _ (stands t c), counted c.args.n)

pub overflow_mul-result : goal.overflow_mul-result
overflow_mul-result t c = omega (arith, below t (goal.at.overflow_mul-result t c).After-ways)

pub overflow_add-result : goal.overflow_add-result
overflow_add-result t c = omega (arith, below t (goal.at.overflow_add-result t c).After-ways)

pub overflow_add-result-2 : goal.overflow_add-result-2
overflow_add-result-2 t c = omega (arith, below t (goal.at.overflow_add-result-2 t c).After-ways)

pub returns : goal.returns
returns t c = stands t (goal.at.returns t c).After-ways
