-- What an edition does to kind 4: question 11 refuses no family of edition 1, edition 1 is the order of old, and both editions have the same objects and as
-- many. Assumes nothing.
use mathlib.Core.Path.{◌≡◌, refl, sym, ◌∙◌, ap}
use mathlib.Core.Bool.{Bool, true, false, cond, ◌&&◌, and-false}
use mathlib.Core.Logic.{⊎_elim}
use Prim.Native.Nat.{ℕ, zero, suc}
use native.Mathlib.Omega.{arith}
use lib.Dec.{leb, eqb}
use lib.ListN.{length}
use borrow.Author.Tests.{lt-leb, ne_eqb}
use Rattle.basics.proofs.Bools.{true_or_false}
use Rattle.listings.specs.Bytes.{Bytes}
use Rattle.listings.specs.Orders.{colex_before}
use Rattle.set_partitions.specs.KeyOrder.{edition_of, key_before}
use Rattle.set_partitions.specs.Objects.{keys, set_partition_before}
use Rattle.families.specs.declared.Family.{Family}
use Rattle.families.specs.Table.{Lent}
use Rattle.families.specs.Families.{row, is_kind, in_table, floor_fits, edition_fits, lists_fit, asked_of_all, all_yes, allowed, is_object, comes_before, listing, count_of}
use Rattle.families.proofs.FamilyFacts.{not-allowed}
use Rattle.families.proofs.Dispatch.{handed}

-- question 11 refuses no family of edition 1, whatever the kind
pub edition_one_asked : (f : Family) → f.edition ≡ 1 → edition_fits f ≡ true
unfolding edition_fits
edition_one_asked f e = rw e (same (eqb f.kind 4))
  where
    same : (t : Bool) → cond t true true ≡ true
    same true = refl
    same false = refl

-- and of kind 4 no other but edition 2
pub other_asked : (f : Family) → f.kind ≡ 4 → (f.edition ≡ 1 → ⊥) → edition_fits f ≡ eqb f.edition 2
unfolding edition_fits
other_asked f e other = rw e (two f.edition other)
  where
    two : (number : ℕ) → (number ≡ 1 → ⊥) → (leb 1 number && leb number 2) ≡ eqb number 2
    two zero h = refl
    two (suc zero) h = absurd (h refl)
    two (suc (suc zero)) h = refl
    two (suc (suc (suc m))) h = rw (lt-leb (suc (suc (suc m))) 2 (omega arith), ne_eqb (suc (suc (suc m))) 2 (λ q. omega arith)) (and-false (leb 1 (suc (suc (suc m)))))

-- the family in another edition
abbrev pub in_edition : ℕ → Family → Family
in_edition edition f = record { kind = f.kind; n = f.n; k = f.k; floor = f.floor; edition = edition }

-- "At the largest i whose keys differ, the smaller key": edition 1 is the order of old
pub edition_one : (f : Family) (b : Lent) (x y : Bytes) → f.kind ≡ 4 → f.edition ≡ 1 → comes_before f b x y ≡ colex_before (keys 0 x) (keys 0 y)
unfolding comes_before row edition_of set_partition_before key_before
edition_one f b x y e one = rw (e, one)

-- the editions have the same objects

same-allowed : (f : Family) (b : Lent) → f.kind ≡ 4 → allowed (in_edition 1 f) b ≡ allowed (in_edition 2 f) b
unfolding allowed all_yes asked_of_all is_kind in_table floor_fits edition_fits lists_fit row
same-allowed f b e = rw e

pub same-objects : (f : Family) (b : Lent) (x : Bytes) → f.kind ≡ 4 → is_object (in_edition 1 f) b x ≡ is_object (in_edition 2 f) b x
unfolding is_object row
same-objects f b x e = rw (same-allowed f b e, e)

-- and as many
pub same_count : (f : Family) (b : Lent) → f.kind ≡ 4 → count_of (in_edition 1 f) b ≡ count_of (in_edition 2 f) b
unfolding count_of
same_count f b e = ⊎_elim some none (true_or_false (allowed (in_edition 2 f) b))
  where
    some : allowed (in_edition 2 f) b ≡ true → length (listing (in_edition 1 f) b) ≡ length (listing (in_edition 2 f) b)
    some a = (handed 4 (in_edition 1 f) b e (same-allowed f b e ∙ a)).counted ∙ sym (handed 4 (in_edition 2 f) b e a).counted

    none : allowed (in_edition 2 f) b ≡ false → length (listing (in_edition 1 f) b) ≡ length (listing (in_edition 2 f) b)
    none a = ap length (not-allowed (in_edition 1 f) b (same-allowed f b e ∙ a) ∙ sym (not-allowed (in_edition 2 f) b a))
