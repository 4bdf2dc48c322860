-- `families::kinds::is_object`: each kind's objects are the family's.
use mathlib.Core.Path.{sym, ◌∙◌}
use lib.ListN.{get_or-map}
use Rattle.families.proofs.Dispatch.{given, n_within, letters_fit}
use Rattle.families.proofs.kinds.is_object.Goals as goal

pub is_object-requires-in-Anagrams : goal.is_object-requires-in-Anagrams
is_object-requires-in-Anagrams c = let t = given c.args.a c.kind.ensures c.in-Anagrams.is in rw (← get_or-map (λ x. x.now) c.args.a.lists.now 0 _) (letters_fit t)

pub is_object-requires-in-Permutations : goal.is_object-requires-in-Permutations
is_object-requires-in-Permutations c = let t = given c.args.a c.kind.ensures c.in-Permutations.is in n_within _ _ _ t.bounds

pub is_object-requires-in-DyckWords : goal.is_object-requires-in-DyckWords
is_object-requires-in-DyckWords c = let t = given c.args.a c.kind.ensures c.in-DyckWords.is in n_within _ _ _ t.bounds

pub is_object-requires-in-Derangements : goal.is_object-requires-in-Derangements
is_object-requires-in-Derangements c = let t = given c.args.a c.kind.ensures c.in-Derangements.is in n_within _ _ _ t.bounds

pub returns-in-Subsets : goal.returns-in-Subsets
returns-in-Subsets c = c.is_object.ensures ∙ sym ((given c.args.a c.kind.ensures c.in-Subsets.is).objects _)

pub returns-in-Anagrams : goal.returns-in-Anagrams
returns-in-Anagrams c = (rw (← get_or-map (λ x. x.now) c.args.a.lists.now 0 _) at c.is_object-in-Anagrams.ensures) ∙ sym ((given c.args.a c.kind.ensures c.in-Anagrams.is).objects _)

pub returns-in-Permutations : goal.returns-in-Permutations
returns-in-Permutations c = c.is_object-in-Permutations.ensures ∙ sym ((given c.args.a c.kind.ensures c.in-Permutations.is).objects _)

pub returns-in-SetPartitions : goal.returns-in-SetPartitions
returns-in-SetPartitions c = c.is_object-in-SetPartitions.ensures ∙ sym ((given c.args.a c.kind.ensures c.in-SetPartitions.is).objects _)

pub returns-in-IntegerPartitions : goal.returns-in-IntegerPartitions
returns-in-IntegerPartitions c = c.is_object-in-IntegerPartitions.ensures ∙ sym ((given c.args.a c.kind.ensures c.in-IntegerPartitions.is).objects _)

pub returns-in-DyckWords : goal.returns-in-DyckWords
returns-in-DyckWords c = c.is_object-in-DyckWords.ensures ∙ sym ((given c.args.a c.kind.ensures c.in-DyckWords.is).objects _)

pub returns-in-Derangements : goal.returns-in-Derangements
returns-in-Derangements c = c.is_object-in-Derangements.ensures ∙ sym ((given c.args.a c.kind.ensures c.in-Derangements.is).objects _)
