-- The letter that is found is left.
use Rattle.std.proofs.Common.{arith}
use Rattle.anagram_ranks.proofs.Fronts.{picked, write_more, write_all}
use Rattle.anagram_ranks.proofs.ranking.write_word.Goals as goal

pub without-left-requires : goal.without-left-requires
without-left-requires c = let e = c.first_letter-place.ensures in (e.place_bound, picked c.loop-letter.invariant _ _ e.place_bound e.rank_among e.rank_bound)

pub loop-letter-preserved : goal.loop-letter-preserved
loop-letter-preserved c =
    let e = c.first_letter-place.ensures in
    let r = c.without-left.result in
    write_more c.loop-letter.invariant _ _ e.place_bound e.rank_among e.rank_bound (omega arith) c.without-left.ensures record { sized = r.sized; short = r.short; counted = r.counted }

pub returns : goal.returns
returns c = write_all c.loop-letter.invariant (omega arith)
