-- `families::kinds::next`: each kind is handed what it asks, and its order and listing are the family's.
use mathlib.Core.Path.{refl, sym, ◌∙◌}
use mathlib.Core.Logic.{⊎_elim}
use lib.ListN.{length}
use Rattle.anagrams.specs.Permutations.{ones}
use Rattle.families.proofs.FamilyFacts.{floor_positive}
use Rattle.families.proofs.Dispatch.{given, number_given, object_n, object_k, n_within}
use Rattle.families.proofs.kinds.next.Goals as goal

pub next-requires : goal.next-requires
next-requires c = let t = object_k c.args.a c.kind.ensures c.in-Subsets.is _ c.requires refl in (n_within _ _ _ t.bounds, sym (t.objects _) ∙ c.requires)

pub next-requires-in-SetPartitions-clause-object_len_bound : goal.next-requires-in-SetPartitions-clause-object_len_bound
next-requires-in-SetPartitions-clause-object_len_bound c = n_within _ _ _ (object_n c.args.a c.kind.ensures c.in-SetPartitions.is _ c.requires refl).bounds

pub next-requires-in-SetPartitions-clause-object_value : goal.next-requires-in-SetPartitions-clause-object_value
next-requires-in-SetPartitions-clause-object_value c = sym ((object_n c.args.a c.kind.ensures c.in-SetPartitions.is _ c.requires refl).objects _) ∙ c.requires

pub next-requires-in-IntegerPartitions-clause-n_le_places : goal.next-requires-in-IntegerPartitions-clause-n_le_places
next-requires-in-IntegerPartitions-clause-n_le_places c = (n_within _ _ _ (object_k c.args.a c.kind.ensures c.in-IntegerPartitions.is _ c.requires refl).bounds, floor_positive _ _ c.args.a.passed (number_given c.args.a c.kind.ensures c.in-IntegerPartitions.is))

pub next-requires-in-IntegerPartitions-clause-object_value : goal.next-requires-in-IntegerPartitions-clause-object_value
next-requires-in-IntegerPartitions-clause-object_value c = sym ((object_k c.args.a c.kind.ensures c.in-IntegerPartitions.is _ c.requires refl).objects _) ∙ c.requires

pub next-requires-in-DyckWords-clause-n_le_branches : goal.next-requires-in-DyckWords-clause-n_le_branches
next-requires-in-DyckWords-clause-n_le_branches c = n_within _ _ _ (given c.args.a c.kind.ensures c.in-DyckWords.is).bounds

pub next-requires-in-DyckWords-clause-object_value : goal.next-requires-in-DyckWords-clause-object_value
next-requires-in-DyckWords-clause-object_value c = sym ((given c.args.a c.kind.ensures c.in-DyckWords.is).objects _) ∙ c.requires

pub next-requires-in-Derangements-clause-object_len_bound : goal.next-requires-in-Derangements-clause-object_len_bound
next-requires-in-Derangements-clause-object_len_bound c = n_within _ _ _ (object_n c.args.a c.kind.ensures c.in-Derangements.is _ c.requires refl).bounds

pub next-requires-in-Derangements-clause-object_value : goal.next-requires-in-Derangements-clause-object_value
next-requires-in-Derangements-clause-object_value c = sym ((object_n c.args.a c.kind.ensures c.in-Derangements.is _ c.requires refl).objects _) ∙ c.requires

pub returns-in-Subsets : goal.returns-in-Subsets
returns-in-Subsets c = let t = object_k c.args.a c.kind.ensures c.in-Subsets.is _ c.requires refl in rw (t.orders, t.lists) c.next.ensures

pub returns-in-Anagrams : goal.returns-in-Anagrams
returns-in-Anagrams c = ⊎_elim
    (λ e. let t = given c.args.a c.kind.ensures e in rw (t.orders, t.lists) (c.next-in-Anagrams.ensures _ (sym (t.objects _) ∙ c.requires)))
    (λ e. let t = object_n c.args.a c.kind.ensures e _ c.requires refl in rw (t.orders, t.lists) (c.next-in-Anagrams.ensures (ones (length c.args.object.now)) (sym (t.objects _) ∙ c.requires)))
    c.in-Anagrams.is

pub returns-in-SetPartitions : goal.returns-in-SetPartitions
returns-in-SetPartitions c = let t = object_n c.args.a c.kind.ensures c.in-SetPartitions.is _ c.requires refl in rw (t.orders, t.lists) c.next-in-SetPartitions.ensures

pub returns-in-IntegerPartitions : goal.returns-in-IntegerPartitions
returns-in-IntegerPartitions c = let t = object_k c.args.a c.kind.ensures c.in-IntegerPartitions.is _ c.requires refl in rw (t.orders, t.lists) c.next-in-IntegerPartitions.ensures

pub returns-in-DyckWords : goal.returns-in-DyckWords
returns-in-DyckWords c = let t = given c.args.a c.kind.ensures c.in-DyckWords.is in rw (t.orders, t.lists) c.next-in-DyckWords.ensures

pub returns-in-Derangements : goal.returns-in-Derangements
returns-in-Derangements c = let t = object_n c.args.a c.kind.ensures c.in-Derangements.is _ c.requires refl in rw (t.orders, t.lists) c.next-in-Derangements.ensures
