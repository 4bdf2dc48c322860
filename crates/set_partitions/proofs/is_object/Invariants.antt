-- `set_partitions::is_object`: the models read so far leave the test of the rest, with the blocks used.
use Rattle.std.proofs.Common.{◌≡◌, ◌<◌, drop}
use Rattle.set_partitions.specs.Objects.{opens, is_set_partition}
use Rattle.set_partitions.proofs.is_object.Given as goal

abbrev pub invariant-loop-block : goal.invariant-loop-block
invariant-loop-block l = (l.used < 256) × (is_set_partition l.n l.k l.object ≡ opens l.used l.k (drop l.block-index l.object))
