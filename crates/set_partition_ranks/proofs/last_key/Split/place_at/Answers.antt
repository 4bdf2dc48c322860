-- `set_partition_ranks::last_key::Split::place_at` meets its contract: the last model alone before or behind the others, by the edition, and else in a block by division.
use Rattle.std.proofs.Common.{add-one}
use Rattle.set_partitions.proofs.KeyOrder.{alone_one, joined-one, alone_two, joined-two}
use Rattle.set_partition_ranks.proofs.last_key.Split.place_at.Goals as goal

pub returns-then-rank-self : goal.returns-then-rank-self
returns-then-rank-self c = let r = c.requires.joined_nonzero in rw c.in-One.is (alone_one c.args.k c.args.rank c.args.self.alone c.args.self.joined r.0 r.1 c.if-rank-self.true)

pub returns-else-rank-self : goal.returns-else-rank-self
returns-else-rank-self c =
    let r = c.requires.joined_nonzero in
    rw (c.in-One.is, c.joined_place.ensures.0, c.joined_place.ensures.1, add-one) (joined-one c.args.k c.args.rank c.args.self.alone c.args.self.joined r.0 r.1 c.if-rank-self.false)

pub returns-then-before-rank : goal.returns-then-before-rank
returns-then-before-rank c = let r = c.requires.joined_nonzero in rw c.in-Two.is (alone_two c.args.k c.args.rank c.args.self.alone c.args.self.joined r.0 r.1 c.if-before-rank.true)

pub returns-else-before-rank : goal.returns-else-before-rank
returns-else-before-rank c =
    let r = c.requires.joined_nonzero in
    rw (c.in-Two.is, c.joined_place-in-Two.ensures.0, c.joined_place-in-Two.ensures.1, add-one) (joined-two c.args.k c.args.rank c.args.self.alone c.args.self.joined r.0 r.1 c.if-before-rank.false)
