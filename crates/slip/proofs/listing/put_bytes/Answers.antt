-- `slip::listing::put_bytes` meets its contract: before the loop nothing is written.
use Rattle.std.proofs.Common.{arith}
use mathlib.Core.List.{flat_map}
use Rattle.columns.proofs.Writes.{wrote_nothing}
use Rattle.slip.proofs.listing.put_bytes.Goals as goal

pub loop-b-init : goal.loop-b-init
unfolding flat_map
loop-b-init c = record { len = omega arith; wrote = wrote_nothing _ }
