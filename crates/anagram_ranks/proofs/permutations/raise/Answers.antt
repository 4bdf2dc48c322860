-- One letter more is raised.
use Rattle.std.proofs.Common.{arith, ap, get_or, set, ◌∙◌}
use Rattle.std.proofs.lemmas.List.{get_or_default}
use Rattle.std.proofs.lemmas.List.Edits.{map_over_more}
use Rattle.anagram_ranks.specs.Inner.Raised.{raised}
use Rattle.anagram_ranks.proofs.Raising.{raised_is}
use Rattle.anagram_ranks.proofs.permutations.raise.Goals as goal

pub loop-letter-preserved : goal.loop-letter-preserved
loop-letter-preserved c =
    let l = c.loop-letter in
    let i = l.letter-index in
    let b = get_or l.part i 0 in
    ap (λ n. set l.part i n) (raised_is c.args.a b _ c.from.ensures)
    ∙ map_over_more (raised c.args.a) c.args.part.now l.part i b (omega arith) l.invariant (get_or_default l.part i 0 b (omega arith))
