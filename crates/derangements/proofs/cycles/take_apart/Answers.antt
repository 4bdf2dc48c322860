-- c and n are a cycle of two and are removed, or n is found and c put in its place.
use Rattle.std.proofs.Common.{arith}
use Rattle.derangements.proofs.InPlace.{apart_pair, apart_cycle, last-stands}
use Rattle.derangements.proofs.cycles.take_apart.Goals as goal

pub returns-then-object-c : goal.returns-then-object-c
returns-then-object-c c = apart_pair _ c.args.object.now _ (omega arith) c.requires.object_value c.if-object-c.true c.drop_pair.ensures

pub place_of-at-requires : goal.place_of-at-requires
place_of-at-requires c = last-stands _ c.args.object.now (omega arith) c.requires.object_value

pub returns : goal.returns
returns c = apart_cycle _ c.args.object.now _ (omega arith) c.requires.object_value c.if-object-c.false c.place_of-at.ensures
