-- `families::table::has_object`: k and the floor are small, so their product fits.
use Prim.Native.Nat.{◌≤◌}
use native.Mathlib.Nat.{mul-le-mul}
use native.Mathlib.Omega.{arith}
use lib.Dec.{leb}
use borrow.Author.Tests.{leb-true}
use Rattle.basics.specs.Limits.{places, floors}
use Rattle.basics.proofs.Bools.{and-true}
use Rattle.families.specs.Families.{row}
use Rattle.families.proofs.FamilyFacts.{floor_positive, floor_most}
use Rattle.families.proofs.Dispatch.{given, number_given, some_parts}
use Rattle.families.proofs.table.has_object.Goals as goal

pub overflow_mul-k : goal.overflow_mul-k
overflow_mul-k c =
    let a = c.args.a in
    let t = given a c.kind.ensures c.in-IntegerPartitions.is in
    let k_most : a.family.now.k ≤ places = leb-true a.family.now.k places (and-true (leb a.family.now.n places) (leb a.family.now.k places) t.bounds).1 in
    let most : a.family.now.floor ≤ floors = floor_most a.family.now _ a.passed (number_given a c.kind.ensures c.in-IntegerPartitions.is) in
    omega (arith, mul-le-mul k_most most)

pub returns-in-IntegerPartitions : goal.returns-in-IntegerPartitions
unfolding row
returns-in-IntegerPartitions c =
    let kind = number_given c.args.a c.kind.ensures c.in-IntegerPartitions.is in
    rw (kind, ← some_parts _ _ (floor_positive _ _ c.args.a.passed kind)) c.shared_out-in-IntegerPartitions.ensures
