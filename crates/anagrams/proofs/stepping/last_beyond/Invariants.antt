-- The pivot's letter precedes none from `place` on.
use Rattle.std.proofs.Common.{◌+◌, ◌≤◌, drop, get_or}
use Rattle.anagrams.specs.Inner.Directions.{NoneBeyond}
use Rattle.anagrams.proofs.stepping.last_beyond.Given as goal

abbrev pub invariant-loop-place : goal.invariant-loop-place
invariant-loop-place l = record { behind : l.pivot + 2 ≤ l.place; none : NoneBeyond l.up (get_or l.object l.pivot 0) (drop l.place l.object) }
