-- `set_partitions::stepping::move_key` meets its contract, by the block that the key leaves.
use Rattle.set_partitions.proofs.KeyOrder.{moved_key}
use Rattle.set_partitions.proofs.stepping.move_key.Goals as goal

pub returns : goal.returns
returns c =
    rw (c.pick.ensures, c.pick-3.ensures, c.pick-block.ensures, c.pick-2.ensures, c.rest_block-2.ensures, c.opposite.ensures.1, c.rest_block.ensures, c.beside.ensures)
    (moved_key c.args.end.up c.args.used c.args.b c.requires.0)
