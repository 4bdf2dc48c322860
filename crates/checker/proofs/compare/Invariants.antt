-- The object in the buffer stands at the place, all entries before it are right, and the bytes from the place on are left.
use Rattle.std.proofs.Common.{◌≡◌, ◌*◌, length, map, drop}
use Rattle.families.specs.Table.{lent}
use Rattle.families.specs.Families.{listing}
use Rattle.checker.proofs.Comparing.{Standing}
use Rattle.checker.proofs.compare.Given as goal

abbrev pub invariant-loop-place : goal.invariant-loop-place
invariant-loop-place l = record {
  left : l.rest ≡ drop (l.place * length l.initial.object) l.bytes;
  standing : Standing (listing l.f (lent (map (λ x. x.now) l.lists))) l.entries (length l.initial.object) l.bytes l.place l.object;
}
