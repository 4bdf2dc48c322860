-- `families::kinds::unrank`: each kind is handed what it asks, and its listing is the family's.
use mathlib.Core.Path.{refl, ◌∙◌}
use lib.ListN.{get_or-map}
use Rattle.families.proofs.FamilyFacts.{floor_positive}
use Rattle.families.proofs.Dispatch.{given, number_given, given_n, given_k, n_within, letters_fit}
use Rattle.families.proofs.kinds.unrank.Goals as goal

pub unrank-requires-clause-n_le_places : goal.unrank-requires-clause-n_le_places
unrank-requires-clause-n_le_places c = n_within _ _ _ (given_k c.args.a c.kind.ensures c.in-Subsets.is _ c.requires.object_len refl).bounds

pub unrank-requires-clause-object_bound : goal.unrank-requires-clause-object_bound
unrank-requires-clause-object_bound c = rw (given_k c.args.a c.kind.ensures c.in-Subsets.is _ c.requires.object_len refl).counted at c.requires.lists_bound

pub unrank-requires-clause-rank_bound : goal.unrank-requires-clause-rank_bound
unrank-requires-clause-rank_bound c = rw (given_k c.args.a c.kind.ensures c.in-Subsets.is _ c.requires.object_len refl).counted at c.requires.rank_bound

pub unrank-requires-in-Anagrams-clause-counts_len_bound : goal.unrank-requires-in-Anagrams-clause-counts_len_bound
unrank-requires-in-Anagrams-clause-counts_len_bound c = rw (← get_or-map (λ x. x.now) c.args.a.lists.now 0 _) (letters_fit (given c.args.a c.kind.ensures c.in-Anagrams.is))

pub unrank-requires-in-Anagrams-clause-counts_bound : goal.unrank-requires-in-Anagrams-clause-counts_bound
unrank-requires-in-Anagrams-clause-counts_bound c = let t = given c.args.a c.kind.ensures c.in-Anagrams.is in rw (← get_or-map (λ x. x.now) c.args.a.lists.now 0 _) (t.short, c.requires.object_len ∙ t.long)

pub unrank-requires-in-Anagrams-clause-counts_bound_2 : goal.unrank-requires-in-Anagrams-clause-counts_bound_2
unrank-requires-in-Anagrams-clause-counts_bound_2 c = rw (← get_or-map (λ x. x.now) c.args.a.lists.now 0 _) (rw (given c.args.a c.kind.ensures c.in-Anagrams.is).counted at c.requires.lists_bound)

pub unrank-requires-in-Anagrams-clause-rank_bound : goal.unrank-requires-in-Anagrams-clause-rank_bound
unrank-requires-in-Anagrams-clause-rank_bound c = rw (← get_or-map (λ x. x.now) c.args.a.lists.now 0 _) (rw (given c.args.a c.kind.ensures c.in-Anagrams.is).counted at c.requires.rank_bound)

pub unrank-requires-in-Permutations-clause-object_len_bound : goal.unrank-requires-in-Permutations-clause-object_len_bound
unrank-requires-in-Permutations-clause-object_len_bound c = n_within _ _ _ (given_n c.args.a c.kind.ensures c.in-Permutations.is _ c.requires.object_len refl).bounds

pub unrank-requires-in-Permutations-clause-rank_bound : goal.unrank-requires-in-Permutations-clause-rank_bound
unrank-requires-in-Permutations-clause-rank_bound c = rw (given_n c.args.a c.kind.ensures c.in-Permutations.is _ c.requires.object_len refl).counted at c.requires.rank_bound

pub unrank-requires-in-SetPartitions-clause-object_len_bound : goal.unrank-requires-in-SetPartitions-clause-object_len_bound
unrank-requires-in-SetPartitions-clause-object_len_bound c = n_within _ _ _ (given_n c.args.a c.kind.ensures c.in-SetPartitions.is _ c.requires.object_len refl).bounds

pub unrank-requires-in-SetPartitions-clause-k_bound : goal.unrank-requires-in-SetPartitions-clause-k_bound
unrank-requires-in-SetPartitions-clause-k_bound c = rw (given_n c.args.a c.kind.ensures c.in-SetPartitions.is _ c.requires.object_len refl).counted at c.requires.lists_bound

pub unrank-requires-in-SetPartitions-clause-rank_bound : goal.unrank-requires-in-SetPartitions-clause-rank_bound
unrank-requires-in-SetPartitions-clause-rank_bound c = rw (given_n c.args.a c.kind.ensures c.in-SetPartitions.is _ c.requires.object_len refl).counted at c.requires.rank_bound

pub unrank-requires-in-IntegerPartitions-clause-n_le_places : goal.unrank-requires-in-IntegerPartitions-clause-n_le_places
unrank-requires-in-IntegerPartitions-clause-n_le_places c = let t = given_k c.args.a c.kind.ensures c.in-IntegerPartitions.is _ c.requires.object_len refl in (n_within _ _ _ t.bounds, (floor_positive _ _ c.args.a.passed (number_given c.args.a c.kind.ensures c.in-IntegerPartitions.is), t.short))

pub unrank-requires-in-IntegerPartitions-clause-rank_bound : goal.unrank-requires-in-IntegerPartitions-clause-rank_bound
unrank-requires-in-IntegerPartitions-clause-rank_bound c = rw (given_k c.args.a c.kind.ensures c.in-IntegerPartitions.is _ c.requires.object_len refl).counted at c.requires.rank_bound

pub unrank-requires-in-DyckWords-clause-object_len : goal.unrank-requires-in-DyckWords-clause-object_len
unrank-requires-in-DyckWords-clause-object_len c = c.requires.object_len ∙ (given c.args.a c.kind.ensures c.in-DyckWords.is).long

pub unrank-requires-in-DyckWords-clause-n_bound : goal.unrank-requires-in-DyckWords-clause-n_bound
unrank-requires-in-DyckWords-clause-n_bound c = rw (given c.args.a c.kind.ensures c.in-DyckWords.is).counted at c.requires.lists_bound

pub unrank-requires-in-DyckWords-clause-rank_bound : goal.unrank-requires-in-DyckWords-clause-rank_bound
unrank-requires-in-DyckWords-clause-rank_bound c = rw (given c.args.a c.kind.ensures c.in-DyckWords.is).counted at c.requires.rank_bound

pub unrank-requires-in-Derangements-clause-object_len_bound : goal.unrank-requires-in-Derangements-clause-object_len_bound
unrank-requires-in-Derangements-clause-object_len_bound c = n_within _ _ _ (given_n c.args.a c.kind.ensures c.in-Derangements.is _ c.requires.object_len refl).bounds

pub unrank-requires-in-Derangements-clause-object_bound : goal.unrank-requires-in-Derangements-clause-object_bound
unrank-requires-in-Derangements-clause-object_bound c = rw (given_n c.args.a c.kind.ensures c.in-Derangements.is _ c.requires.object_len refl).counted at c.requires.lists_bound

pub unrank-requires-in-Derangements-clause-rank_bound : goal.unrank-requires-in-Derangements-clause-rank_bound
unrank-requires-in-Derangements-clause-rank_bound c = rw (given_n c.args.a c.kind.ensures c.in-Derangements.is _ c.requires.object_len refl).counted at c.requires.rank_bound

pub returns-in-Subsets : goal.returns-in-Subsets
returns-in-Subsets c = rw (given_k c.args.a c.kind.ensures c.in-Subsets.is _ c.requires.object_len refl).lists c.unrank.ensures

pub returns-in-Anagrams : goal.returns-in-Anagrams
returns-in-Anagrams c = rw (given c.args.a c.kind.ensures c.in-Anagrams.is).lists (rw (← get_or-map (λ x. x.now) c.args.a.lists.now 0 _) at c.unrank-in-Anagrams.ensures)

pub returns-in-Permutations : goal.returns-in-Permutations
returns-in-Permutations c = rw (given_n c.args.a c.kind.ensures c.in-Permutations.is _ c.requires.object_len refl).lists c.unrank-in-Permutations.ensures

pub returns-in-SetPartitions : goal.returns-in-SetPartitions
returns-in-SetPartitions c = rw (given_n c.args.a c.kind.ensures c.in-SetPartitions.is _ c.requires.object_len refl).lists c.unrank-in-SetPartitions.ensures

pub returns-in-IntegerPartitions : goal.returns-in-IntegerPartitions
returns-in-IntegerPartitions c = rw (given_k c.args.a c.kind.ensures c.in-IntegerPartitions.is _ c.requires.object_len refl).lists c.unrank-in-IntegerPartitions.ensures

pub returns-in-DyckWords : goal.returns-in-DyckWords
returns-in-DyckWords c = rw (given c.args.a c.kind.ensures c.in-DyckWords.is).lists c.unrank-in-DyckWords.ensures

pub returns-in-Derangements : goal.returns-in-Derangements
returns-in-Derangements c = rw (given_n c.args.a c.kind.ensures c.in-Derangements.is _ c.requires.object_len refl).lists c.unrank-in-Derangements.ensures
