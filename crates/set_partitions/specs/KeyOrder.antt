-- The order of the keys (SCOPE 2.4), all that an edition decides: which of two comes first, and the list of those that a model can have.
-- Assumes nothing.
use Rattle.std.specs.Prelude.{Bool, cond, ◌&&◌, ◌||◌, List, [], ◌∷◌, ◌++◌, ℕ, ltb, eqb}
use Rattle.basics.specs.Sums.{range}
-- "A family says edition 1 or 2" (SCOPE 1.f): the two cases of src/edition.rt
pub use Rattle.set_partitions.specs.declared.edition.Edition.{Edition}
pub use Rattle.set_partitions.specs.declared.edition.Edition.TheVariants.{One as one, Two as two}

-- the edition that a number says; of no edition but 1 and 2 is there a family (SCOPE 4.11)
unfoldable pub edition_of : ℕ → Edition
edition_of number = cond (eqb number 2) two one

-- "the smaller key" (SCOPE 2.4); in edition 2 "the key of a model that is smallest in its block", 0, "counts as higher than every block number" (SCOPE 1.f)
unfoldable pub key_before : Edition → ℕ → ℕ → Bool
key_before one c d = ltb c d
key_before two c d = ltb 0 c && (eqb d 0 || ltb c d)

-- the keys that the last of the models in k blocks can have, in that order
unfoldable pub keys_in_order : Edition → ℕ → List ℕ
keys_in_order one k = 0 ∷ range 1 k
keys_in_order two k = range 1 k ++ (0 ∷ [])
