-- `families::kinds::previous`: each kind is handed what it asks, and its order and listing are the family's.
use mathlib.Core.Path.{refl, sym, ◌∙◌}
use mathlib.Core.Logic.{⊎_elim}
use lib.ListN.{length}
use Rattle.anagrams.specs.Permutations.{ones}
use Rattle.families.proofs.Dispatch.{given, object_n, object_k, n_within}
use Rattle.families.proofs.kinds.previous.Goals as goal

pub previous-requires : goal.previous-requires
previous-requires c = let t = object_k c.args.a c.kind.ensures c.in-Subsets.is _ c.requires refl in (n_within _ _ _ t.bounds, sym (t.objects _) ∙ c.requires)

pub previous-requires-in-SetPartitions-clause-object_len_bound : goal.previous-requires-in-SetPartitions-clause-object_len_bound
previous-requires-in-SetPartitions-clause-object_len_bound c = n_within _ _ _ (object_n c.args.a c.kind.ensures c.in-SetPartitions.is _ c.requires refl).bounds

pub previous-requires-in-SetPartitions-clause-object_value : goal.previous-requires-in-SetPartitions-clause-object_value
previous-requires-in-SetPartitions-clause-object_value c = sym ((object_n c.args.a c.kind.ensures c.in-SetPartitions.is _ c.requires refl).objects _) ∙ c.requires

pub previous-requires-in-IntegerPartitions-clause-n_le_places : goal.previous-requires-in-IntegerPartitions-clause-n_le_places
previous-requires-in-IntegerPartitions-clause-n_le_places c = n_within _ _ _ (object_k c.args.a c.kind.ensures c.in-IntegerPartitions.is _ c.requires refl).bounds

pub previous-requires-in-IntegerPartitions-clause-object_value : goal.previous-requires-in-IntegerPartitions-clause-object_value
previous-requires-in-IntegerPartitions-clause-object_value c = sym ((object_k c.args.a c.kind.ensures c.in-IntegerPartitions.is _ c.requires refl).objects _) ∙ c.requires

pub previous-requires-in-DyckWords-clause-n_le_branches : goal.previous-requires-in-DyckWords-clause-n_le_branches
previous-requires-in-DyckWords-clause-n_le_branches c = n_within _ _ _ (given c.args.a c.kind.ensures c.in-DyckWords.is).bounds

pub previous-requires-in-DyckWords-clause-object_value : goal.previous-requires-in-DyckWords-clause-object_value
previous-requires-in-DyckWords-clause-object_value c = sym ((given c.args.a c.kind.ensures c.in-DyckWords.is).objects _) ∙ c.requires

pub previous-requires-in-Derangements-clause-object_len_bound : goal.previous-requires-in-Derangements-clause-object_len_bound
previous-requires-in-Derangements-clause-object_len_bound c = n_within _ _ _ (object_n c.args.a c.kind.ensures c.in-Derangements.is _ c.requires refl).bounds

pub previous-requires-in-Derangements-clause-object_value : goal.previous-requires-in-Derangements-clause-object_value
previous-requires-in-Derangements-clause-object_value c = sym ((object_n c.args.a c.kind.ensures c.in-Derangements.is _ c.requires refl).objects _) ∙ c.requires

pub returns-in-Subsets : goal.returns-in-Subsets
returns-in-Subsets c = let t = object_k c.args.a c.kind.ensures c.in-Subsets.is _ c.requires refl in rw (t.orders, t.lists) c.previous.ensures

pub returns-in-Anagrams : goal.returns-in-Anagrams
returns-in-Anagrams c = ⊎_elim
    (λ e. let t = given c.args.a c.kind.ensures e in rw (t.orders, t.lists) (c.previous-in-Anagrams.ensures _ (sym (t.objects _) ∙ c.requires)))
    (λ e. let t = object_n c.args.a c.kind.ensures e _ c.requires refl in rw (t.orders, t.lists) (c.previous-in-Anagrams.ensures (ones (length c.args.object.now)) (sym (t.objects _) ∙ c.requires)))
    c.in-Anagrams.is

pub returns-in-SetPartitions : goal.returns-in-SetPartitions
returns-in-SetPartitions c = let t = object_n c.args.a c.kind.ensures c.in-SetPartitions.is _ c.requires refl in rw (t.orders, t.lists) c.previous-in-SetPartitions.ensures

pub returns-in-IntegerPartitions : goal.returns-in-IntegerPartitions
returns-in-IntegerPartitions c = let t = object_k c.args.a c.kind.ensures c.in-IntegerPartitions.is _ c.requires refl in rw (t.orders, t.lists) c.previous-in-IntegerPartitions.ensures

pub returns-in-DyckWords : goal.returns-in-DyckWords
returns-in-DyckWords c = let t = given c.args.a c.kind.ensures c.in-DyckWords.is in rw (t.orders, t.lists) c.previous-in-DyckWords.ensures

pub returns-in-Derangements : goal.returns-in-Derangements
returns-in-Derangements c = let t = object_n c.args.a c.kind.ensures c.in-Derangements.is _ c.requires refl in rw (t.orders, t.lists) c.previous-in-Derangements.ensures
