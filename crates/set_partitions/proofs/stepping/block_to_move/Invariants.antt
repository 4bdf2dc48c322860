-- `set_partitions::stepping::block_to_move`: no key at the places passed can move, and their highest block is kept. Where there is no model, nothing is read.
use Rattle.std.proofs.Common.{◌≡◌, false, ℕ, ◌<◌, length}
use Rattle.set_partitions.specs.Inner.Moves.{opens_late, used_before, moves_at}
use Rattle.set_partitions.proofs.stepping.block_to_move.Given as goal

abbrev pub invariant-loop-place : goal.invariant-loop-place
invariant-loop-place l = 0 < length l.object → (l.used ≡ used_before l.object l.place) × ((i : ℕ) → i < l.place → moves_at (opens_late l.end.edition l.end.up) l.end.up l.object i ≡ false)
