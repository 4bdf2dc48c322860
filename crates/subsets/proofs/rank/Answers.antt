-- `rank`: each turn counts by the number that it reads, and with no number left all are counted.
use Rattle.std.proofs.Common.{◌≡◌, ◌+◌, ◌-◌, arith}
use Rattle.subsets.proofs.Ranks.{Turn, turn, ranked}
use Rattle.subsets.proofs.rank.Goals as goal
use Rattle.subsets.proofs.rank.Goals.{After-from-below}

-- the number read is the last of those that are left
read : (c : After-from-below) → let i = c.loop-i.i in Turn c.args.n c.loop-i.before (i - 1 + 1) (i - 1) c.from-below.result c.args.object.now
read c = turn c.loop-i.invariant c.requires.object_value (c.loop-i.i - 1 + 1) (c.loop-i.i - 1) _ (omega arith) (omega arith) (omega arith) c.from-below.ensures

pub overflow_sub-below : goal.overflow_sub-below
overflow_sub-below c = (read (goal.at.overflow_sub-below c).After-from-below).some

pub coefficient-before-requires : goal.coefficient-before-requires
coefficient-before-requires c = let t = read (goal.at.coefficient-before-requires c).After-from-below in omega (arith, t)

pub overflow_add-before : goal.overflow_add-before
overflow_add-before c = let t = read (goal.at.overflow_add-before c).After-from-below in omega (arith, t)

pub loop-i-preserved : goal.loop-i-preserved
loop-i-preserved c = rw c.coefficient-before.ensures (read (goal.at.loop-i-preserved c).After-from-below).next

pub returns : goal.returns
returns c = let none : c.loop-i.i ≡ 0 = omega arith in ranked (rw none at c.loop-i.invariant)
