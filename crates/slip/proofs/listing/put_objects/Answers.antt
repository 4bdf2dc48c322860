-- `slip::listing::put_objects` meets its contract: a line an object, to END or MORE.
use Rattle.std.proofs.Common.{◌≡◌, ℕ, ◌+◌, refl, arith, add-one}
use mathlib.Core.List.{map}
use Rattle.listings.proofs.PlaceRules.{at_below}
use Rattle.families.specs.Table.{lent}
use Rattle.families.specs.Families.{listing}
use Rattle.families.proofs.Going.{moves_on, stops}
use Rattle.columns.proofs.Writes.{wrote_nothing}
use Rattle.slip.specs.Text.{object_lines}
use Rattle.slip.proofs.Lines.{line_written, ended, cut}
use Rattle.slip.proofs.listing.put_objects.Goals as goal

pub loop-rank-init : goal.loop-rank-init
unfolding object_lines
loop-rank-init c = record { len = omega arith; here = c.requires.first; wrote = wrote_nothing _ }

pub returns-in-Ok-End : goal.returns-in-Ok-End
returns-in-Ok-End c =
    let a = c.args in
    let b = lent (map (λ x. x.now) a.lists) in
    let s = listing a.f b in
    let l = c.loop-rank in
    let last = stops a.f b l.rank l.invariant.here (λ e. cc) (rw c.in-Ok-End.field-0-is at c.in-Ok-End.ensures) in
    ended a.start s (l.rank + 1) (line_written a.start s l.rank l.invariant.wrote l.invariant.here (rw c.from.ensures at c.put_object.ensures.wrote)) (omega arith) (omega arith) c.put_last.ensures

pub returns-in-Err : goal.returns-in-Err
returns-in-Err c =
    let a = c.args in
    let b = lent (map (λ x. x.now) a.lists) in
    let s = listing a.f b in
    let l = c.loop-rank in
    let last = stops a.f b l.rank l.invariant.here (λ e. cc) c.in-Err.ensures in
    ended a.start s (l.rank + 1) (line_written a.start s l.rank l.invariant.wrote l.invariant.here (rw c.from.ensures at c.put_object.ensures.wrote)) (omega arith) (omega arith) c.put_last-in-Err.ensures

pub loop-rank-preserved : goal.loop-rank-preserved
loop-rank-preserved c =
    let a = c.args in
    let b = lent (map (λ x. x.now) a.lists) in
    let l = c.loop-rank in
    record {
      len = omega (arith, c.put_object.ensures.len);
      here = rw add-one (moves_on a.f b l.rank l.invariant.here (rw c.in-Ok-Moved.field-0-is at c.in-Ok-Moved.ensures));
      wrote = line_written a.start (listing a.f b) l.rank l.invariant.wrote l.invariant.here (rw c.from.ensures at c.put_object.ensures.wrote);
    }

pub returns : goal.returns
returns c =
    let a = c.args in
    let s = listing a.f (lent (map (λ x. x.now) a.lists)) in
    let l = c.loop-rank in
    cut a.start s l.rank l.invariant.wrote (at_below s l.rank l.invariant.here) (omega arith) c.put_last-2.ensures
