-- `families::kinds::rank`: each kind is handed what it asks, and its order and listing are the family's.
use mathlib.Core.Path.{refl, sym, ◌∙◌}
use lib.ListN.{get_or-map}
use borrow.Author.Tests.{leb-true}
use Rattle.families.specs.Families.{rank_of}
use Rattle.families.proofs.FamilyFacts.{floor_positive}
use Rattle.families.proofs.Dispatch.{given, number_given, object_n, object_k, n_within, letters_fit, sum_fits}
use Rattle.families.proofs.kinds.rank.Goals as goal

pub rank-requires-clause-n_le_places : goal.rank-requires-clause-n_le_places
rank-requires-clause-n_le_places c = n_within _ _ _ (object_k c.args.a c.kind.ensures c.in-Subsets.is _ c.requires.object_value refl).bounds

pub rank-requires-clause-object_value : goal.rank-requires-clause-object_value
rank-requires-clause-object_value c = sym ((object_k c.args.a c.kind.ensures c.in-Subsets.is _ c.requires.object_value refl).objects _) ∙ c.requires.object_value

pub rank-requires-clause-object_bound : goal.rank-requires-clause-object_bound
rank-requires-clause-object_bound c = rw (object_k c.args.a c.kind.ensures c.in-Subsets.is _ c.requires.object_value refl).counted at c.requires.lists_bound

pub rank-requires-in-Anagrams-clause-counts_len_bound : goal.rank-requires-in-Anagrams-clause-counts_len_bound
rank-requires-in-Anagrams-clause-counts_len_bound c = rw (← get_or-map (λ x. x.now) c.args.a.lists.now 0 _) (letters_fit (given c.args.a c.kind.ensures c.in-Anagrams.is))

pub rank-requires-in-Anagrams-clause-counts_bound : goal.rank-requires-in-Anagrams-clause-counts_bound
rank-requires-in-Anagrams-clause-counts_bound c = rw (← get_or-map (λ x. x.now) c.args.a.lists.now 0 _) (leb-true _ _ (sum_fits (given c.args.a c.kind.ensures c.in-Anagrams.is)))

pub rank-requires-in-Anagrams-clause-object_value : goal.rank-requires-in-Anagrams-clause-object_value
rank-requires-in-Anagrams-clause-object_value c = rw (← get_or-map (λ x. x.now) c.args.a.lists.now 0 _) (sym ((given c.args.a c.kind.ensures c.in-Anagrams.is).objects _) ∙ c.requires.object_value)

pub rank-requires-in-Anagrams-clause-counts_bound_2 : goal.rank-requires-in-Anagrams-clause-counts_bound_2
rank-requires-in-Anagrams-clause-counts_bound_2 c = rw (← get_or-map (λ x. x.now) c.args.a.lists.now 0 _) (rw (given c.args.a c.kind.ensures c.in-Anagrams.is).counted at c.requires.lists_bound)

pub rank-requires-in-Permutations-clause-object_len_bound : goal.rank-requires-in-Permutations-clause-object_len_bound
rank-requires-in-Permutations-clause-object_len_bound c = n_within _ _ _ (object_n c.args.a c.kind.ensures c.in-Permutations.is _ c.requires.object_value refl).bounds

pub rank-requires-in-Permutations-clause-object_value : goal.rank-requires-in-Permutations-clause-object_value
rank-requires-in-Permutations-clause-object_value c = sym ((object_n c.args.a c.kind.ensures c.in-Permutations.is _ c.requires.object_value refl).objects _) ∙ c.requires.object_value

pub rank-requires-in-Permutations-clause-object_bound : goal.rank-requires-in-Permutations-clause-object_bound
rank-requires-in-Permutations-clause-object_bound c = rw (object_n c.args.a c.kind.ensures c.in-Permutations.is _ c.requires.object_value refl).counted at c.requires.lists_bound

pub rank-requires-in-SetPartitions-clause-object_len_bound : goal.rank-requires-in-SetPartitions-clause-object_len_bound
rank-requires-in-SetPartitions-clause-object_len_bound c = n_within _ _ _ (object_n c.args.a c.kind.ensures c.in-SetPartitions.is _ c.requires.object_value refl).bounds

pub rank-requires-in-SetPartitions-clause-object_value : goal.rank-requires-in-SetPartitions-clause-object_value
rank-requires-in-SetPartitions-clause-object_value c = sym ((object_n c.args.a c.kind.ensures c.in-SetPartitions.is _ c.requires.object_value refl).objects _) ∙ c.requires.object_value

pub rank-requires-in-SetPartitions-clause-k_bound : goal.rank-requires-in-SetPartitions-clause-k_bound
rank-requires-in-SetPartitions-clause-k_bound c = rw (object_n c.args.a c.kind.ensures c.in-SetPartitions.is _ c.requires.object_value refl).counted at c.requires.lists_bound

pub rank-requires-in-IntegerPartitions-clause-n_le_places : goal.rank-requires-in-IntegerPartitions-clause-n_le_places
rank-requires-in-IntegerPartitions-clause-n_le_places c = (n_within _ _ _ (object_k c.args.a c.kind.ensures c.in-IntegerPartitions.is _ c.requires.object_value refl).bounds, floor_positive _ _ c.args.a.passed (number_given c.args.a c.kind.ensures c.in-IntegerPartitions.is))

pub rank-requires-in-IntegerPartitions-clause-object_value : goal.rank-requires-in-IntegerPartitions-clause-object_value
rank-requires-in-IntegerPartitions-clause-object_value c = sym ((object_k c.args.a c.kind.ensures c.in-IntegerPartitions.is _ c.requires.object_value refl).objects _) ∙ c.requires.object_value

pub rank-requires-in-DyckWords-clause-n_le_branches : goal.rank-requires-in-DyckWords-clause-n_le_branches
rank-requires-in-DyckWords-clause-n_le_branches c = n_within _ _ _ (given c.args.a c.kind.ensures c.in-DyckWords.is).bounds

pub rank-requires-in-DyckWords-clause-object_value : goal.rank-requires-in-DyckWords-clause-object_value
rank-requires-in-DyckWords-clause-object_value c = sym ((given c.args.a c.kind.ensures c.in-DyckWords.is).objects _) ∙ c.requires.object_value

pub rank-requires-in-DyckWords-clause-n_bound : goal.rank-requires-in-DyckWords-clause-n_bound
rank-requires-in-DyckWords-clause-n_bound c = rw (given c.args.a c.kind.ensures c.in-DyckWords.is).counted at c.requires.lists_bound

pub rank-requires-in-Derangements-clause-object_len_bound : goal.rank-requires-in-Derangements-clause-object_len_bound
rank-requires-in-Derangements-clause-object_len_bound c = n_within _ _ _ (object_n c.args.a c.kind.ensures c.in-Derangements.is _ c.requires.object_value refl).bounds

pub rank-requires-in-Derangements-clause-object_value : goal.rank-requires-in-Derangements-clause-object_value
rank-requires-in-Derangements-clause-object_value c = sym ((object_n c.args.a c.kind.ensures c.in-Derangements.is _ c.requires.object_value refl).objects _) ∙ c.requires.object_value

pub rank-requires-in-Derangements-clause-object_bound : goal.rank-requires-in-Derangements-clause-object_bound
rank-requires-in-Derangements-clause-object_bound c = rw (object_n c.args.a c.kind.ensures c.in-Derangements.is _ c.requires.object_value refl).counted at c.requires.lists_bound

pub returns-in-Subsets : goal.returns-in-Subsets
unfolding rank_of
returns-in-Subsets c = let t = object_k c.args.a c.kind.ensures c.in-Subsets.is _ c.requires.object_value refl in rw (t.orders, t.lists) c.rank.ensures

pub returns-in-Anagrams : goal.returns-in-Anagrams
unfolding rank_of
returns-in-Anagrams c = let t = given c.args.a c.kind.ensures c.in-Anagrams.is in rw (t.orders, t.lists) (rw (← get_or-map (λ x. x.now) c.args.a.lists.now 0 _) at c.rank-in-Anagrams.ensures)

pub returns-in-Permutations : goal.returns-in-Permutations
unfolding rank_of
returns-in-Permutations c = let t = object_n c.args.a c.kind.ensures c.in-Permutations.is _ c.requires.object_value refl in rw (t.orders, t.lists) c.rank-in-Permutations.ensures

pub returns-in-SetPartitions : goal.returns-in-SetPartitions
unfolding rank_of
returns-in-SetPartitions c = let t = object_n c.args.a c.kind.ensures c.in-SetPartitions.is _ c.requires.object_value refl in rw (t.orders, t.lists) c.rank-in-SetPartitions.ensures

pub returns-in-IntegerPartitions : goal.returns-in-IntegerPartitions
unfolding rank_of
returns-in-IntegerPartitions c = let t = object_k c.args.a c.kind.ensures c.in-IntegerPartitions.is _ c.requires.object_value refl in rw (t.orders, t.lists) c.rank-in-IntegerPartitions.ensures

pub returns-in-DyckWords : goal.returns-in-DyckWords
unfolding rank_of
returns-in-DyckWords c = let t = given c.args.a c.kind.ensures c.in-DyckWords.is in rw (t.orders, t.lists) c.rank-in-DyckWords.ensures

pub returns-in-Derangements : goal.returns-in-Derangements
unfolding rank_of
returns-in-Derangements c = let t = object_n c.args.a c.kind.ensures c.in-Derangements.is _ c.requires.object_value refl in rw (t.orders, t.lists) c.rank-in-Derangements.ensures
