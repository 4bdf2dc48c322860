-- `families::kinds::first`: each kind is handed what it asks, and its listing is the family's.
use mathlib.Core.Path.{refl, ◌∙◌}
use lib.ListN.{get_or-map}
use borrow.Author.Tests.{leb-true}
use Rattle.families.proofs.Dispatch.{given, given_n, given_k, n_within, letters_fit, shared, other_than}
use Rattle.families.proofs.kinds.first.Goals as goal

pub first-requires : goal.first-requires
first-requires c = let t = given_k c.args.a c.kind.ensures c.in-Subsets.is _ c.requires.object_len refl in (n_within _ _ _ t.bounds, leb-true _ _ (t.some c.requires.nonzero))

pub first-requires-in-Anagrams : goal.first-requires-in-Anagrams
first-requires-in-Anagrams c = let t = given c.args.a c.kind.ensures c.in-Anagrams.is in rw (← get_or-map (λ x. x.now) c.args.a.lists.now 0 _) (letters_fit t, c.requires.object_len ∙ t.long)

pub first-requires-in-Permutations : goal.first-requires-in-Permutations
first-requires-in-Permutations c = n_within _ _ _ (given_n c.args.a c.kind.ensures c.in-Permutations.is _ c.requires.object_len refl).bounds

pub first-requires-in-SetPartitions-clause-object_len_bound : goal.first-requires-in-SetPartitions-clause-object_len_bound
first-requires-in-SetPartitions-clause-object_len_bound c = n_within _ _ _ (given_n c.args.a c.kind.ensures c.in-SetPartitions.is _ c.requires.object_len refl).bounds

pub first-requires-in-SetPartitions-clause-k_in_bounds : goal.first-requires-in-SetPartitions-clause-k_in_bounds
first-requires-in-SetPartitions-clause-k_in_bounds c = shared _ _ _ ((given_n c.args.a c.kind.ensures c.in-SetPartitions.is _ c.requires.object_len refl).some c.requires.nonzero)

pub first-requires-in-IntegerPartitions-clause-n_le_places : goal.first-requires-in-IntegerPartitions-clause-n_le_places
first-requires-in-IntegerPartitions-clause-n_le_places c = let t = given_k c.args.a c.kind.ensures c.in-IntegerPartitions.is _ c.requires.object_len refl in (n_within _ _ _ t.bounds, (shared _ _ _ (t.some c.requires.nonzero)).0)

pub first-requires-in-IntegerPartitions-clause-n_value : goal.first-requires-in-IntegerPartitions-clause-n_value
first-requires-in-IntegerPartitions-clause-n_value c = (shared _ _ _ ((given_k c.args.a c.kind.ensures c.in-IntegerPartitions.is _ c.requires.object_len refl).some c.requires.nonzero)).1

pub first-requires-in-DyckWords : goal.first-requires-in-DyckWords
first-requires-in-DyckWords c = c.requires.object_len ∙ (given c.args.a c.kind.ensures c.in-DyckWords.is).long

pub first-requires-in-Derangements-clause-object_len_bound : goal.first-requires-in-Derangements-clause-object_len_bound
first-requires-in-Derangements-clause-object_len_bound c = n_within _ _ _ (given_n c.args.a c.kind.ensures c.in-Derangements.is _ c.requires.object_len refl).bounds

pub first-requires-in-Derangements-clause-fact : goal.first-requires-in-Derangements-clause-fact
first-requires-in-Derangements-clause-fact c = other_than _ 1 ((given_n c.args.a c.kind.ensures c.in-Derangements.is _ c.requires.object_len refl).some c.requires.nonzero)

pub returns-in-Subsets : goal.returns-in-Subsets
returns-in-Subsets c = rw (given_k c.args.a c.kind.ensures c.in-Subsets.is _ c.requires.object_len refl).lists c.first.ensures

pub returns-in-Anagrams : goal.returns-in-Anagrams
returns-in-Anagrams c = rw (given c.args.a c.kind.ensures c.in-Anagrams.is).lists (rw (← get_or-map (λ x. x.now) c.args.a.lists.now 0 _) at c.first-in-Anagrams.ensures)

pub returns-in-Permutations : goal.returns-in-Permutations
returns-in-Permutations c = rw (given_n c.args.a c.kind.ensures c.in-Permutations.is _ c.requires.object_len refl).lists c.first-in-Permutations.ensures

pub returns-in-SetPartitions : goal.returns-in-SetPartitions
returns-in-SetPartitions c = rw (given_n c.args.a c.kind.ensures c.in-SetPartitions.is _ c.requires.object_len refl).lists c.first-in-SetPartitions.ensures

pub returns-in-IntegerPartitions : goal.returns-in-IntegerPartitions
returns-in-IntegerPartitions c = rw (given_k c.args.a c.kind.ensures c.in-IntegerPartitions.is _ c.requires.object_len refl).lists c.first-in-IntegerPartitions.ensures

pub returns-in-DyckWords : goal.returns-in-DyckWords
returns-in-DyckWords c = rw (given c.args.a c.kind.ensures c.in-DyckWords.is).lists c.first-in-DyckWords.ensures

pub returns-in-Derangements : goal.returns-in-Derangements
returns-in-Derangements c = rw (given_n c.args.a c.kind.ensures c.in-Derangements.is _ c.requires.object_len refl).lists c.first-in-Derangements.ensures
