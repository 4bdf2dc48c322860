-- The search of a step, place by place: what its tests say of the key there, and the highest block behind it.
-- Assumes nothing.
use mathlib.Core.Path.{◌≡◌}
use mathlib.Core.Bool.{Bool, false, not, ◌&&◌, cond}
use Prim.Native.Nat.{ℕ, zero, suc, ◌+◌, ◌≤◌, ◌<◌, max}
use native.Mathlib.Numerals.{add-one}
use native.Mathlib.Omega.{arith}
use lib.Dec.{eqb, ltb}
use lib.ListN.{get_or}
use borrow.Author.Tests.{lt-ltb, le-ltb}
use Rattle.listings.specs.Bytes.{Bytes}
use Rattle.set_partitions.specs.Inner.Moves.{moves, used_before, moves_at, rest_block}
use Rattle.set_partitions.proofs.KeyOrder.{new_stays}

pub moves_new : (late up : Bool) (x : Bytes) (i : ℕ) → used_before x i < get_or x i 0 → moves_at late up x i ≡ (not late && ltb (used_before x i) i)
unfolding moves
moves_new late up x i h = rw (lt-ltb _ _ h)

pub moves_old : (late up : Bool) (x : Bytes) (i : ℕ) → get_or x i 0 ≤ used_before x i → moves_at late up x i ≡ cond late (ltb 1 (used_before x i)) (not (eqb (get_or x i 0) (rest_block up (used_before x i))))
unfolding moves
moves_old late up x i h = rw (le-ltb _ _ h)

pub used_before_more : (x : Bytes) (i : ℕ) → used_before x (i + 1) ≡ max (used_before x i) (get_or x i 0)
unfolding used_before
used_before_more x i = rw add-one

-- the first model is in block 1, and its key stays

pub used_before_first : (x : Bytes) → get_or x 0 0 ≡ 1 → used_before x 1 ≡ 1
unfolding used_before
used_before_first x e = rw e (omega arith)

pub first_stays : (late up : Bool) (x : Bytes) → get_or x 0 0 ≡ 1 → (i : ℕ) → i < 1 → moves_at late up x i ≡ false
unfolding used_before
first_stays late up x e zero h = rw e (new_stays late up 0 0 (λ q. omega arith))
first_stays late up x e (suc i) h = absurd (omega arith)

-- all of them, for the search
pub ruleset search_steps = (moves_new, moves_old, used_before_more, used_before_first, first_stays)
