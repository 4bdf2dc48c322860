-- Each count is 0 where their sum is.
use Rattle.std.proofs.Common.{rules, tests, ◌∙◌, eqb}
use Rattle.std.proofs.lemmas.Iterator.{YieldsList-from_slice}
use Rattle.std.proofs.lemmas.Iterator.Search.{all_from_yields_List}
use Rattle.anagrams.proofs.Testing.{all_zero}
use Rattle.anagrams.proofs.letters.none_left.Goals as goal

pub returns : goal.returns
returns c =
    all_from_yields_List (λ n. eqb n 0) _ _ _ c.all.ensures.ran (YieldsList-from_slice c.args.left.now cc) (λ x b q k. search (rules, tests))
    ∙ all_zero c.args.left.now
