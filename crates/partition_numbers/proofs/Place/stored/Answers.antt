-- `partition_numbers::Place::stored` meets its contract: the number stands in its place.
use Rattle.std.proofs.Common.{arith}
use Rattle.partition_numbers.proofs.Tested.{worked_out, in_place}
use Rattle.partition_numbers.proofs.Place.stored.Goals as goal

pub returns-then-self-lt4 : goal.returns-then-self-lt4
returns-then-self-lt4 c = let p = c.args.self in worked_out p.e p.column (p.in_table, c.requires) c.if-self-lt4.true

pub returns : goal.returns
returns c = let p = c.args.self in (in_place p.e p.column (p.in_table, c.requires) (omega arith)).there
