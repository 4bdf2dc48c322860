-- The loop's invariant: the sum of the bytes so far, which is within the limit.
use Rattle.std.proofs.Common.{◌≡◌, ◌≤◌, sum, take}
use Rattle.basics.proofs.sum_to_limit.Given as goal

abbrev pub invariant-loop-b : goal.invariant-loop-b
invariant-loop-b l = (l.sum ≤ l.limit) × (l.sum ≡ sum (take l.b-index l.bytes))
