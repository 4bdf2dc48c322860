-- `set_partition_ranks::size::Size::others`: no more partitions are left than there were.
use Rattle.std.proofs.Common.{arith}
use Rattle.set_partition_ranks.proofs.Ranks.{others_within}
use Rattle.set_partition_ranks.proofs.size.Size.others.Goals as goal

pub invariant_of-result : goal.invariant_of-result
invariant_of-result c =
    let s = c.args.self in
    record { in_limits = (omega (arith, s.in_limits.0), rw c.others_in.ensures (omega (arith, others_within s.n s.k c.args.key c.requires.0 c.requires.1, s.in_limits.1))) }
