-- Each early return is a code or a buffer that does not fit, and past them all the run is the marker's.
use mathlib.Core.Bool.{true≢false}
use mathlib.Core.Path.{sym, ◌∙◌}
use native.Mathlib.Omega.{arith}
use borrow.Author.Tests.{eqb-true, eqb-false}
use Rattle.replay.proofs.Outcome.{refuses, runs}
use Rattle.replay.proofs.replay.Goals as goal

pub returns-then-not-known : goal.returns-then-not-known
returns-then-not-known c = refuses _ _ _ _ _ (λ p. true≢false (sym p.codes ∙ sym c.known.ensures ∙ c.if-not-known.true))

pub returns-then-ranks-calls : goal.returns-then-ranks-calls
returns-then-ranks-calls c = refuses _ _ _ _ _ (λ p. omega (arith, p.ranked))

pub returns-then-answers-calls : goal.returns-then-answers-calls
returns-then-answers-calls c = refuses _ _ _ _ _ (λ p. omega (arith, p.answered))

pub returns-then-not-is_product : goal.returns-then-not-is_product
returns-then-not-is_product c =
    refuses _ _ _ _ _ (λ p. eqb-false _ _ (sym c.is_product.ensures ∙ c.if-not-is_product.true) p.room)

pub returns : goal.returns
returns c =
    runs _ _ _ _ _
    (record {
      codes = sym c.known.ensures ∙ c.if-not-known.false;
      ranked = c.if-ranks-calls.false;
      answered = c.if-answers-calls.false;
      room = eqb-true _ _ (sym c.is_product.ensures ∙ c.if-not-is_product.false);
    })
    c.run.ensures
