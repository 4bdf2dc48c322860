-- The record so far, followed by what the calls that are left will give, is the whole.
use Rattle.std.proofs.Common.{◌≡◌, ◌*◌, length, map}
use Rattle.families.specs.Table.{lent}
use Rattle.replay.proofs.Walk.{Standing}
use Rattle.replay.proofs.run.Given as goal

abbrev pub invariant-loop-i : goal.invariant-loop-i
invariant-loop-i l = record {
  place : l.at ≡ l.i * length l.initial.object;
  standing : Standing l.f (lent (map (λ x. x.now) l.lists)) l.initial.object l.calls l.ranks l.i l.at l.object l.answers l.trail;
}
