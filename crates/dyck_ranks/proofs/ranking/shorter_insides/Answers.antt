-- The closure gives the words of each inside, and their sum is part of the whole number.
use Rattle.std.proofs.Common.{rules, tests, ◌*◌, ◌-◌, ◌^◌, ◌∙◌, ℕ, refl, arith}
use Rattle.std.specs.List.{range_with_len}
use Rattle.std.proofs.lemmas.Iterator.{YieldsList-from_range, YieldsList-from_map}
use Rattle.std.proofs.lemmas.Iterator.Consumers.{YieldsList-at, sum_by_from_yields_List, fits_by_from_yields_list}
use Rattle.numbers.specs.Numbers.{catalan_of}
use Rattle.dyck_ranks.proofs.Ranks.{shorter-sum, shorter-le}
use Rattle.dyck_ranks.proofs.ranking.shorter_insides.Goals as goal

abbrev words : ℕ → ℕ → ℕ
words n i = catalan_of i * catalan_of (n - i)

pub sum-requires-clause-fits : goal.sum-requires-clause-fits
sum-requires-clause-fits c =
    let j = c.args.j in
    fits_by_from_yields_list (words c.args.n) (range_with_len 0 j) c.map.result (2 ^ 64)
    (YieldsList-from_map _ (words c.args.n) (YieldsList-at c.map.ensures.source (YieldsList-from_range 0 j j refl (omega arith))) c.map.ensures.closure (λ x r q k. search (rules, tests)))
    (omega (arith, shorter-sum c.args.n j, shorter-le c.args.n j (omega arith)))

pub returns : goal.returns
returns c =
    let j = c.args.j in
    sum_by_from_yields_List (words c.args.n) (range_with_len 0 j) c.map.result c.sum.result c.sum.ensures.ran
    (YieldsList-from_map _ (words c.args.n) (YieldsList-at c.map.ensures.source (YieldsList-from_range 0 j j refl (omega arith))) c.map.ensures.closure (λ x r q k. search (rules, tests)))
    ∙ shorter-sum c.args.n j
