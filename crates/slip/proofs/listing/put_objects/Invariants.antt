-- The loop's invariant: the object in the buffer stands at place rank of the listing, and the lines before it are written.
use Rattle.std.proofs.Common.{◌≡◌, ◌≤◌, ◌+◌, ◌*◌, take, length}
use mathlib.Core.List.{map}
use Rattle.basics.specs.Limits.{longest_object}
use Rattle.listings.specs.Places.{At}
use Rattle.families.specs.Table.{lent}
use Rattle.families.specs.Families.{listing}
use Rattle.columns.specs.Inner.Writing.{Wrote}
use Rattle.slip.specs.Sizes.{object_line_width}
use Rattle.slip.specs.Text.{object_lines}
use Rattle.slip.proofs.listing.put_objects.Given as goal

abbrev pub invariant-loop-rank : goal.invariant-loop-rank
invariant-loop-rank l =
    let objects = listing l.f (lent (map (λ x. x.now) l.lists)) in
    record {
      len : l.text.len ≤ l.fn.text.len + object_line_width longest_object * l.rank;
      here : At objects l.object l.rank;
      wrote : Wrote l.fn.text l.text (object_lines l.start (take l.rank objects));
    }
