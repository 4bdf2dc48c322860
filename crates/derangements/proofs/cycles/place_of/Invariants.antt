-- The place that the number has is still ahead.
use Rattle.std.proofs.Common.{◌≡◌, ℕ, ◌-◌, ◌≤◌, ◌<◌, length, get_or}
use Rattle.derangements.proofs.cycles.place_of.Given as goal

abbrev pub invariant-loop-i : goal.invariant-loop-i
invariant-loop-i l = (p : ℕ) × (l.i ≤ p) × (p < length l.object) × (get_or l.object p 0 ≡ l.number)

abbrev pub decreases-loop-i : goal.decreases-loop-i
decreases-loop-i l = length l.object - l.i
