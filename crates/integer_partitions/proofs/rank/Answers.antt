-- `rank`: each turn counts by the part that it reads, and with no part left all are counted.
use Rattle.std.proofs.Common.{◌≡◌, ◌+◌, ◌-◌, length, arith}
use Rattle.integer_partitions.proofs.Facts.{few}
use Rattle.integer_partitions.proofs.Small.{small_over}
use Rattle.integer_partitions.proofs.Ranks.{Turn, ranking, turn, ranked}
use Rattle.integer_partitions.proofs.rank.Goals as goal
use Rattle.integer_partitions.proofs.rank.Goals.{After-from-p}

-- the part read is the last of those that are left
read : (c : After-from-p) → let l = c.loop-i in Turn c.args.floor c.args.n l.earlier l.least l.left (l.i - 1 + 1) (l.i - 1) c.from-p.result c.args.object.now
read c = turn c.loop-i.invariant c.requires.object_value (c.loop-i.i - 1 + 1) (c.loop-i.i - 1) _ (omega arith) (omega arith) c.from-p.ensures

pub loop-i-init : goal.loop-i-init
loop-i-init c = ranking _ _ _ (omega arith) c.requires.object_value

pub with_smaller-earlier-requires-clause-floor_nonzero : goal.with_smaller-earlier-requires-clause-floor_nonzero
with_smaller-earlier-requires-clause-floor_nonzero c =
    let t = read (goal.at.with_smaller-earlier-requires-clause-floor_nonzero c).After-from-p in
    let short = few c.args.floor c.args.n (length c.args.object.now) c.args.object.now (omega arith) c.requires.object_value in
    omega (arith, t, short)

pub with_smaller-earlier-requires-clause-floor_le_p : goal.with_smaller-earlier-requires-clause-floor_le_p
with_smaller-earlier-requires-clause-floor_le_p c = let t = read (goal.at.with_smaller-earlier-requires-clause-floor_le_p c).After-from-p in omega (arith, t)

pub overflow_add-earlier : goal.overflow_add-earlier
overflow_add-earlier c =
    let t = read (goal.at.overflow_add-earlier c).After-from-p in
    omega (arith, t, small_over c.args.floor c.args.n (length c.args.object.now) (omega arith) (omega arith))

pub overflow_sub-left : goal.overflow_sub-left
overflow_sub-left c = let t = read (goal.at.overflow_sub-left c).After-from-p in omega (arith, t)

pub loop-i-preserved : goal.loop-i-preserved
loop-i-preserved c = rw c.with_smaller-earlier.ensures (read (goal.at.loop-i-preserved c).After-from-p).next

pub returns : goal.returns
returns c = let none : c.loop-i.i ≡ 0 = omega arith in ranked (rw none at c.loop-i.invariant)
