-- A branch goes from the rest to the inside, or going back from the inside to the rest, and both start over.
use Rattle.std.proofs.Common.{suc, ◌-◌, arith}
use Rattle.dyck_words.specs.Trees.{node, size}
use Rattle.dyck_words.specs.Inner.Moves.{start_tree}
use Rattle.dyck_words.proofs.Neighbours.{grows, shrinks}
use Rattle.dyck_words.proofs.Lent.{whole_long, inside-long}
use Rattle.dyck_words.proofs.stepping.resize_inside.Goals as goal

pub overflow_add-len : goal.overflow_add-len
overflow_add-len c = omega (arith, whole_long c.requires.2)

pub overflow_add-len-then-up : goal.overflow_add-len-then-up
overflow_add-len-then-up c = omega (arith, whole_long c.requires.2)

pub write_parts-requires : goal.write_parts-requires
write_parts-requires c = (omega arith, omega (arith, whole_long c.requires.2))

pub returns-then-up : goal.returns-then-up
returns-then-up c i r p h k =
    let long = whole_long p in
    let half = inside-long p in
    let m = size r - 1 in
    (node (start_tree c.args.up (suc (size i))) (start_tree c.args.up m), c.write_parts.ensures (suc (size i)) m (omega arith) (omega arith), grows i r m c.if-up.true (omega arith) h k)

pub write_parts-requires-2 : goal.write_parts-requires-2
write_parts-requires-2 c = (omega (arith, inside-long c.requires.2), omega (arith, whole_long c.requires.2))

pub returns : goal.returns
returns c i r p h k =
    let long = whole_long p in
    let half = inside-long p in
    let j = size i - 1 in
    (node (start_tree c.args.up j) (start_tree c.args.up (suc (size r))), c.write_parts-2.ensures j (suc (size r)) (omega arith) (omega arith), shrinks i r j c.if-up.false (omega arith) h k)
