-- What a replay answers: misfit, where a buffer or a code does not fit, and else the whole of the marker's run.
-- Assumes nothing.
use mathlib.Core.Path.{◌≡◌, refl, ap}
use mathlib.Core.Bool.{true, false}
use mathlib.Core.List.{List}
use mathlib.Core.Logic.{⊎_elim}
use Prim.Native.Nat.{ℕ, ◌*◌}
use lib.ListN.{length}
use borrow.Author.Tests.{eqb-true, eq-eqb}
use Rattle.basics.proofs.Bools.{and-true, true_or_false}
use Rattle.families.specs.declared.Family.{Family}
use Rattle.families.specs.Table.{Lent}
use Rattle.families.specs.Calls.{run}
use Rattle.families.proofs.Demand.{calls_are_the_marker}
use Rattle.replay.specs.Codes.{calls_of, known}
use Rattle.replay.specs.Record.{Buffers, buffers_fit, kept, Outcome, outcome}

module _ (calls ranks : List ℕ) (f : Family) (b : Lent) (s : Buffers) where
  -- the test of the buffers, read as plain facts
  pub record Fit : Type 0 where
    pub codes : known calls ≡ true
    pub ranked : length ranks ≡ length calls
    pub answered : length s.answers ≡ length calls
    pub room : length s.trail ≡ length calls * length s.object

  read : buffers_fit calls ranks s ≡ true → Fit
  unfolding buffers_fit
  read h =
      let a = and-true _ _ h in
      let b = and-true _ _ a.0 in
      let c = and-true _ _ b.0 in
      record { codes = c.0; ranked = eqb-true _ _ c.1; answered = eqb-true _ _ b.1; room = eqb-true _ _ a.1 }

  fit : Fit → buffers_fit calls ranks s ≡ true
  unfolding buffers_fit
  fit p = rw (p.codes, eq-eqb _ _ p.ranked, eq-eqb _ _ p.answered, eq-eqb _ _ p.room)

  pub refuses : (Fit → ⊥) → ◌≡◌ {A = Outcome} (false, s) (outcome calls ranks f b s)
  unfolding outcome
  refuses no-fit = ⊎_elim (λ yes. absurd (no-fit (read yes))) (λ no. rw no refl) (true_or_false (buffers_fit calls ranks s))

  pub runs : {after : Buffers} → Fit → after ≡ kept s.object (run (calls_of calls ranks) f b s.object) → ◌≡◌ {A = Outcome} (true, after) (outcome calls ranks f b s)
  unfolding outcome
  runs p e = rw (fit p) (ap (λ (x : Buffers). (true, x)) (rw (calls_are_the_marker f b s.object (calls_of calls ranks)) at e))
