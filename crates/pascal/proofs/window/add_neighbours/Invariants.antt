-- `pascal::window::add_neighbours`: each index passed has its sum, and the others are as they were.
use Rattle.std.proofs.Common.{◌≡◌, ℕ, suc, ◌+◌, ◌≤◌, ◌<◌, get_or}
use Rattle.pascal.proofs.window.add_neighbours.Given as goal

abbrev pub invariant-loop-i : goal.invariant-loop-i
invariant-loop-i l = ((k : ℕ) → k < l.i → get_or l.w k 0 ≡ get_or l.fn.w k 0 + get_or l.fn.w (suc k) 0) × ((k : ℕ) → l.i ≤ k → get_or l.w k 0 ≡ get_or l.fn.w k 0)
