-- `families::table::counted`: each arm asks the crate `counting` within its limits, which the table keeps to.
use lib.Dec.{leb}
use lib.ListN.{get_or-map}
use Rattle.basics.specs.Limits.{places, branches}
use Rattle.basics.proofs.Bools.{and-true, and_makes}
use Rattle.families.proofs.FamilyFacts.{floor_within}
use Rattle.families.proofs.Dispatch.{given, number_given, sum_fits}
use Rattle.families.proofs.CountAnswers.{answer-within}
use Rattle.families.proofs.table.counted.Goals as goal

pub returns-in-Subsets : goal.returns-in-Subsets
returns-in-Subsets c = let t = given c.args.a c.kind.ensures c.in-Subsets.is in answer-within c.coefficient.ensures t.bounds t.counted

pub returns-in-Anagrams : goal.returns-in-Anagrams
returns-in-Anagrams c =
    let t = given c.args.a c.kind.ensures c.in-Anagrams.is in
    answer-within (rw (← get_or-map (λ x. x.now) c.args.a.lists.now 0 _) at c.multinomial.ensures) (sum_fits t) t.counted

pub returns-in-Permutations : goal.returns-in-Permutations
returns-in-Permutations c =
    let t = given c.args.a c.kind.ensures c.in-Permutations.is in
    answer-within c.factorial.ensures (and-true (leb c.args.a.family.now.n places) _ t.bounds).0 t.counted

pub returns-in-SetPartitions : goal.returns-in-SetPartitions
returns-in-SetPartitions c = let t = given c.args.a c.kind.ensures c.in-SetPartitions.is in answer-within c.stirling.ensures t.bounds t.counted

pub returns-in-IntegerPartitions : goal.returns-in-IntegerPartitions
returns-in-IntegerPartitions c =
    let t = given c.args.a c.kind.ensures c.in-IntegerPartitions.is in
    let floor = floor_within _ _ c.args.a.passed (number_given c.args.a c.kind.ensures c.in-IntegerPartitions.is) in
    answer-within c.partitions.ensures (and_makes floor t.bounds) t.counted

pub returns-in-DyckWords : goal.returns-in-DyckWords
returns-in-DyckWords c =
    let t = given c.args.a c.kind.ensures c.in-DyckWords.is in
    answer-within c.catalan.ensures (and-true (leb c.args.a.family.now.n branches) _ t.bounds).0 t.counted

pub returns-in-Derangements : goal.returns-in-Derangements
returns-in-Derangements c =
    let t = given c.args.a c.kind.ensures c.in-Derangements.is in
    answer-within c.derangement.ensures (and-true (leb c.args.a.family.now.n places) _ t.bounds).0 t.counted
