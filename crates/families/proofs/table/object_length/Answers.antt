-- `families::table::object_length`: the letters of an anagram are within the places, so their sum is exact.
use mathlib.Core.Path.{sym, ◌∙◌}
use Prim.Native.Nat.{◌≤◌}
use native.Mathlib.Nat.{min-eq_left}
use native.Mathlib.Omega.{arith}
use lib.ListN.{get_or-map}
use borrow.Author.Tests.{leb-true}
use Rattle.basics.specs.Limits.{places, branches}
use Rattle.basics.specs.Sums.{total}
use Rattle.families.specs.Inner.Admissions.{lists_of}
use Rattle.families.proofs.Dispatch.{given, n_within, sum_fits}
use Rattle.families.proofs.table.object_length.Goals as goal

pub overflow_mul-result : goal.overflow_mul-result
overflow_mul-result c =
    let t = given c.args.a c.kind.ensures c.in-DyckWords.is in
    let small : c.args.a.family.now.n ≤ branches = n_within _ _ _ t.bounds in
    omega arith

pub returns-in-Anagrams : goal.returns-in-Anagrams
returns-in-Anagrams c =
    let t = given c.args.a c.kind.ensures c.in-Anagrams.is in
    let short = leb-true (total (lists_of c.args.a).counts) places (sum_fits t) in
    (rw (← get_or-map (λ x. x.now) c.args.a.lists.now 0 _) at c.sum_to_limit.ensures) ∙ min-eq_left (omega arith) ∙ sym t.long
