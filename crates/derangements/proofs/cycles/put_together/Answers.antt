-- c and n are put back as a cycle of two, or n in the place of the key and the key at the end.
use Rattle.std.proofs.Common.{refl, arith}
use Rattle.derangements.proofs.InPlace.{put_cycle, put-pair, front_is, key_in_front}
use Rattle.derangements.proofs.cycles.put_together.Goals as goal

pub add_pair-requires-clause-object_value : goal.add_pair-requires-clause-object_value
add_pair-requires-clause-object_value c = front_is _ c.args.object.now c.args.key (omega arith) c.if-n-key.true c.requires.keyed

pub returns-then-n-key : goal.returns-then-n-key
returns-then-n-key c = put-pair _ c.args.object.now _ c.args.key (omega arith) c.if-n-key.true c.add_pair.ensures

pub place_of-at-requires : goal.place_of-at-requires
place_of-at-requires c = key_in_front _ c.args.object.now c.args.key (omega arith) refl c.if-n-key.false c.requires.keyed

pub returns : goal.returns
returns c = put_cycle _ c.args.object.now c.args.key _ (omega arith) refl c.requires.keyed c.if-n-key.false c.place_of-at.ensures
