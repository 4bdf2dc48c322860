-- `set_partition_ranks::keys::keys_of`: the keys stored so far, and then those of the rest, are all keys.
use Rattle.std.proofs.Common.{◌≡◌, ◌++◌, length, take, drop}
use Rattle.basics.specs.Limits.{longest_object}
use Rattle.set_partitions.specs.Objects.{keys as keys_in}
use Rattle.set_partition_ranks.proofs.keys.keys_of.Given as goal

abbrev pub invariant-loop-i : goal.invariant-loop-i
invariant-loop-i l = (longest_object ≡ length l.keys) × (keys_in 0 l.object ≡ take l.i l.keys ++ keys_in l.used (drop l.i l.object))
