-- `families::questions::ask_others`: where the count is asked for and doesn't fit, question 5 is the first that is missed.
use mathlib.Core.Path.{sym, ◌∙◌}
use Rattle.std.proofs.lemmas.Result.{err_from_is_err_and}
use Rattle.families.specs.Questions.{put, closing_for}
use Rattle.families.proofs.QuestionLaws.{past, stop}
use Rattle.families.proofs.Verdicts.{misses_five, others}
use Rattle.families.proofs.questions.ask_others.Goals as goal

pub returns-in_err-is_below : goal.returns-in_err-is_below
unfolding closing_for put
returns-in_err-is_below c =
    let p = err_from_is_err_and c.from_residual.result c.from_residual.ensures.1 in
    let five = misses_five _ _ (sym c.number_fits.ensures ∙ c.in_err-is_below.was) in
    rw (p.1, p.2, five.1) (sym (others c.args.a.family.now _ _ _ _ c.args.a.passed ∙ past _ _ (sym c.some_object.ensures ∙ c.if-not-some_object.false) ∙ stop _ _ five.0))
