-- What a replay leaves in its buffers: the marker's run (SCOPE 0.3, 5).
-- Assumes nothing.
use Rattle.std.specs.Prelude.{Bool, true, false, cond, ◌&&◌, ℕ, ◌*◌, eqb, length}
use mathlib.Core.List.{List, map, flat_map}
use Rattle.listings.specs.Bytes.{Bytes}
use Rattle.listings.specs.Calls.{Said}
use Rattle.listings.specs.Runs.{finally}
use Rattle.families.specs.declared.Family.{Family}
use Rattle.families.specs.Table.{Lent}
use Rattle.families.specs.Codes.{code_of}
use Rattle.families.specs.Marker.{marker}
use Rattle.replay.specs.Codes.{calls_of, known}

-- the buffers that a replay writes
pub record Buffers : Type 0 where
  pub object : Bytes
  pub answers : List ℕ
  pub trail : Bytes

-- these three as buffers
abbrev pub buffers : Bytes → List ℕ → Bytes → Buffers
buffers object answers trail = record { object = object; answers = answers; trail = trail }

-- every code is known, a rank and an answer for each call, and room for the object after each
unfoldable pub buffers_fit : List ℕ → List ℕ → Buffers → Bool
buffers_fit calls ranks b =
    known calls && eqb (length ranks) (length calls) && eqb (length b.answers) (length calls) && eqb (length b.trail) (length calls * length b.object)

-- the code of every answer
unfoldable pub codes_of : List Said → List ℕ
codes_of run = map (λ s. code_of s.0) run

-- the bytes after every call, one after the other
unfoldable pub trail_of : List Said → Bytes
trail_of run = flat_map (λ s. s.1) run

-- a run from the bytes x, in the buffers: the bytes at its end, the code of every answer, and the bytes after every call
unfoldable pub kept : Bytes → List Said → Buffers
kept x run = buffers (finally x run) (codes_of run) (trail_of run)

-- whether the calls were run, and the buffers
abbrev pub Outcome : Type 0
Outcome = Bool × Buffers

-- where the buffers fit, they keep the marker's run (SCOPE 0.3); else nothing is changed
unfoldable pub outcome : List ℕ → List ℕ → Family → Lent → Buffers → Outcome
outcome calls ranks f lists b =
    cond (buffers_fit calls ranks b) (true, kept b.object (marker (calls_of calls ranks) f lists b.object)) (false, b)
