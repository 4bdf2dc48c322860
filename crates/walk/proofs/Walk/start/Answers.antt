-- The object stands in front of zeros, beside RANK's answer.
use mathlib.Core.Path.{ap}
use native.Mathlib.Omega.{arith}
use lib.ListN.{length-take}
use Rattle.families.specs.Answers.{ranked_as}
use Rattle.walk.specs.Walks.{walk_at}
use Rattle.walk.proofs.Arrays.{object_copied, refused_start, room}
use Rattle.walk.proofs.Walk.start.Goals as goal

pub returns-in_default : goal.returns-in_default
unfolding walk_at
returns-in_default c = refused_start _ _ _ (ap ranked_as c.in_default.is) c.rank-answer.ensures

pub slice_bounds-bytes-end : goal.slice_bounds-bytes-end
slice_bounds-bytes-end c = room _ _ _ c.in-Ok.ensures

pub slice_bounds-copy_from_slice-end : goal.slice_bounds-copy_from_slice-end
slice_bounds-copy_from_slice-end c = let h = room _ _ _ c.in-Ok.ensures in simp length-take (omega arith)

pub copy_from_slice-requires : goal.copy_from_slice-requires
copy_from_slice-requires c = let h = room _ _ _ c.in-Ok.ensures in simp length-take (omega arith)

pub returns : goal.returns
returns c = object_copied _ _ _ c.copy_from_slice.ensures.after c.in-Ok.ensures
