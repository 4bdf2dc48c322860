-- Each arm is the call of its code, and what is left over is FIRST.
use mathlib.Core.Path.{ap}
use Prim.Native.Nat.{ℕ}
use native.Mathlib.Omega.{arith}
use Rattle.replay.specs.Codes.{call_of}
use Rattle.replay.proofs.Coding.{otherwise_first, coding}
use Rattle.families.proofs.CodeLaws.{written_code, stepped_code}
use Rattle.replay.proofs.one_call.Goals as goal

pub returns-in-2 : goal.returns-in-2
unfolding call_of
returns-in-2 c = coding _ _ _ _ (ap (λ (n : ℕ). call_of n c.args.rank) c.in-2.is) c.last.ensures (written_code _ c.written.ensures)

pub returns-in-3 : goal.returns-in-3
unfolding call_of
returns-in-3 c = coding _ _ _ _ (ap (λ (n : ℕ). call_of n c.args.rank) c.in-3.is) c.next.ensures (stepped_code _ c.stepped.ensures)

pub returns-in-4 : goal.returns-in-4
unfolding call_of
returns-in-4 c =
    coding _ _ _ _ (ap (λ (n : ℕ). call_of n c.args.rank) c.in-4.is) c.previous.ensures (stepped_code _ c.stepped-in-4.ensures)

pub returns-in-5 : goal.returns-in-5
unfolding call_of
returns-in-5 c =
    coding _ _ _ _ (ap (λ (n : ℕ). call_of n c.args.rank) c.in-5.is) c.unrank.ensures (written_code _ c.written-in-5.ensures)

pub returns-in_default : goal.returns-in_default
returns-in_default c =
    coding _ _ _ _ (otherwise_first c.args.call c.args.rank (λ e. omega arith) (λ e. omega arith) (λ e. omega arith) (λ e. omega arith)) c.first.ensures (written_code _ c.written-in_default.ensures)
