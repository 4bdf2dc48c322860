-- The partitions over a floor are those of old whose parts are all at least the floor, in the order of old.
-- Assumes nothing.
use mathlib.Core.Path.{◌≡◌, refl}
use mathlib.Core.Bool.{true}
use mathlib.Core.List.{[], ◌∷◌}
use Prim.Native.Nat.{ℕ, ◌≤◌}
use native.Mathlib.Omega.{arith}
use lib.Dec.{leb}
use lib.ListN.{get_or}
use borrow.Author.Tests.{leb-true, le-leb}
use Rattle.listings.specs.Bytes.{Bytes}
use Rattle.listings.specs.Kept.{kept}
use Rattle.basics.proofs.Bools.{and-true, and_makes}
use Rattle.listings.proofs.KeptRule.{kept_rule}
use Rattle.listings.proofs.Uniqueness.{unique}
use Rattle.integer_partitions.specs.Objects.{descends, is_integer_partition, at_least}
use Rattle.integer_partitions.specs.Listing.{integer_partitions}
use Rattle.integer_partitions.proofs.Facts.{partition_cases, partition_makes, descends-cons, descends_makes, from_floor}
use Rattle.integer_partitions.proofs.Theorem.{lists}

-- a floor that all parts respect may take the place of another

least_parts : (g f : ℕ) (x : Bytes) → g ≤ f → descends f x ≡ true → at_least g x ≡ true
unfolding at_least
least_parts g f [] le e = refl
least_parts g f (a ∷ x) le e = and_makes (le-leb g a (omega (arith, from_floor f (a ∷ x) e))) (least_parts g f x le (descends-cons f a x e).1)

head_over : (g f a : ℕ) (x : Bytes) → f ≤ a → get_or x 0 g ≤ a → get_or x 0 f ≤ a
head_over g f a [] le h = le
head_over g f a (b ∷ x) le h = h

over : (g f : ℕ) (x : Bytes) → descends g x ≡ true → at_least f x ≡ true → descends f x ≡ true
unfolding descends at_least
over g f [] e l = refl
over g f (a ∷ x) e l =
    let (h, d) = descends-cons g a x e in
    let (low, rest) = and-true (leb f a) (at_least f x) l in
    descends_makes f a x (head_over g f a x (leb-true f a low) h) (over g f x d rest)

-- so a higher floor keeps just those that respect it

module _ (g f n k : ℕ) (le : g ≤ f) where
  passes : (x : Bytes) → is_integer_partition f n k x ≡ true → (is_integer_partition g n k x ≡ true) × (at_least f x ≡ true)
  passes x o =
      let p = partition_cases f n k x o in
      (partition_makes g n k x (record { size = p.size; sum = p.sum; down = over f g x p.down (least_parts g f x le p.down) }), least_parts f f x (omega arith) p.down)

  makes : (x : Bytes) → is_integer_partition g n k x ≡ true → at_least f x ≡ true → is_integer_partition f n k x ≡ true
  makes x o l =
      let p = partition_cases g n k x o in
      partition_makes f n k x (record { size = p.size; sum = p.sum; down = over g f x p.down l })

  pub floor_keeps : integer_partitions f n k ≡ kept (at_least f) (integer_partitions g n k)
  floor_keeps = unique (lists f n k) (kept_rule (at_least f) passes makes (lists g n k))
