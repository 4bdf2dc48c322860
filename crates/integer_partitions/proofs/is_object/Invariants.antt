-- `is_object`: the whole test is the test of the parts that are left, over the part read last and with the sum that is left.
use Rattle.std.proofs.Common.{◌≡◌, length}
use Rattle.std.specs.Slice.Iter.{iter_rest}
use Rattle.std.specs.Iterator.Adapters.{rev_source}
use Rattle.integer_partitions.specs.Objects.{is_integer_partition}
use Rattle.integer_partitions.proofs.is_object.Given as goal

abbrev pub invariant-loop-p : goal.invariant-loop-p
invariant-loop-p l = let x = iter_rest (rev_source l.p-iterator) in is_integer_partition l.floor l.n l.k l.object ≡ is_integer_partition l.least l.left (length x) x
