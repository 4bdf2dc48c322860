-- Whether all are known depends on the codes that are left.
use Rattle.std.proofs.Common.{◌≡◌, drop}
use Rattle.replay.specs.Codes.{known}
use Rattle.replay.proofs.known.Given as goal

abbrev pub invariant-loop-call : goal.invariant-loop-call
invariant-loop-call l = known (drop l.call-index l.calls) ≡ known l.calls
