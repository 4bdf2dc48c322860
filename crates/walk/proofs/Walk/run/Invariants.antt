-- The codes so far and the rest of the run make up the whole.
use Rattle.std.proofs.Common.{◌≡◌, map}
use Rattle.families.specs.Table.{lent}
use Rattle.walk.specs.Walks.{run_of}
use Rattle.walk.proofs.Runs.{Left, taken}
use Rattle.walk.proofs.Walk.run.Given as goal

abbrev pub invariant-loop-i : goal.invariant-loop-i
invariant-loop-i l =
    ◌≡◌ {A = Left} (taken (lent (map (λ x. x.now) l.lists)) l.walk l.on l.answers l.i) (run_of l.initial.walk (lent (map (λ x. x.now) l.lists)) l.on l.initial.answers)
