-- The loop's invariant: the places so far count up.
use Rattle.std.proofs.Common.{◌≡◌, take}
use Rattle.basics.specs.Sums.{range}
use Rattle.listings.proofs.fill_up.Given as goal

abbrev pub invariant-loop-i : goal.invariant-loop-i
invariant-loop-i l = take l.i l.part ≡ range l.from l.i
