-- The loop's invariant: the bytes so far stand in their columns.
use Rattle.std.proofs.Common.{◌≡◌, ◌+◌, ◌*◌, take}
use mathlib.Core.List.{flat_map}
use Rattle.columns.specs.Columns.{column}
use Rattle.columns.specs.Fields.{field_width}
use Rattle.columns.specs.Inner.Writing.{Wrote}
use Rattle.slip.proofs.listing.put_bytes.Given as goal

abbrev pub invariant-loop-b : goal.invariant-loop-b
invariant-loop-b l = record { len : l.text.len ≡ l.fn.text.len + field_width * l.b-index; wrote : Wrote l.fn.text l.text (flat_map (column field_width) (take l.b-index l.object)) }
