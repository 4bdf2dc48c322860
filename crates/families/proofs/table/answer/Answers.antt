-- `families::table::answer`: subsets have an answer of their own.
use Rattle.std.proofs.Common.{arith}
use Rattle.std.proofs.lemmas.Grind.{common_steps}
use Rattle.counting.specs.Answers.{fits}
use Rattle.families.proofs.Dispatch.{given}
use Rattle.families.proofs.CountAnswers.{answer-within}
use Rattle.families.proofs.table.answer.Goals as goal

pub returns-in-Subsets : goal.returns-in-Subsets
unfolding fits
returns-in-Subsets c =
    let t = given c.args.a c.kind.ensures c.in-Subsets.is in
    let exact = answer-within c.subset_count.ensures t.bounds t.counted in
    grind (arith, common_steps, exact)
