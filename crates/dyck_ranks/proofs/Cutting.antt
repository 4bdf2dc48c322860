-- A word cut into its inside and its rest: both are words, the table has their rows, and where they stand says where the word stands.
-- Assumes nothing.
use mathlib.Core.Path.{◌≡◌}
use mathlib.Core.Bool.{true}
use Prim.Native.Nat.{ℕ, ◌+◌, ◌-◌, ◌*◌, ◌/◌, ◌≤◌}
use native.Mathlib.Nat.{add_assoc}
use native.Mathlib.Omega.{arith}
use lib.ListN.{length, get_or}
use Rattle.numbers.specs.Numbers.{catalan_of}
use Rattle.listings.specs.Bytes.{Bytes}
use Rattle.listings.specs.Places.{At}
use Rattle.dyck_words.specs.Objects.{is_dyck_word}
use Rattle.dyck_words.specs.Trees.{Tree, size, word}
use Rattle.dyck_words.specs.Listing.{dyck_words}
use Rattle.dyck_words.specs.Inner.Moves.{Parts}
use Rattle.dyck_words.specs.Inner.Reading.{RowsTold}
use Rattle.dyck_ranks.specs.Inner.Shorter.{shorter}
use Rattle.dyck_words.proofs.Facts.{dyck_makes}
use Rattle.dyck_words.proofs.Theorem.{long, spelled}
use Rattle.dyck_words.proofs.Lent.{parted, rest_part, inside_part, whole_long, inside-long, rest_lent, inside-lent}
use Rattle.dyck_ranks.proofs.Ranks.{word_at}

-- a word with a branch, whose inside is len long
pub record Cut (n : ℕ) (x : Bytes) (len : ℕ) : Type 0 where
  pub inner : Tree
  pub outer : Tree
  pub parts : Parts x len inner outer
  pub inner_size : size inner ≡ len / 2
  pub outer_size : size outer ≡ n - 1 - len / 2
  pub within : len / 2 ≤ n - 1

pub cut : (n : ℕ) (x : Bytes) {rows : Bytes} → is_dyck_word n x ≡ true → (n ≡ 0 → ⊥) → RowsTold x rows → Cut n x (get_or rows 1 0)
cut n x o branched told =
    let e = long n x o in
    let (i, r, p) = parted (spelled n x o) told (λ z. branched (omega arith)) in
    let half = inside-long p in
    let whole = whole_long p in
    record { inner = i; outer = r; parts = p; inner_size = omega arith; outer_size = omega arith; within = omega arith }

-- so both parts stand within the bytes, and neither has more branches than are left
module _ {n : ℕ} {x rows : Bytes} (o : is_dyck_word n x ≡ true) (branched : n ≡ 0 → ⊥) (told : RowsTold x rows) where
  pub inside_fits : get_or rows 1 0 + 2 ≤ length x
  inside_fits = let c = cut n x o branched told in omega (arith, whole_long c.parts)

  pub branches_fit : get_or rows 1 0 / 2 ≤ n - 1
  branches_fit = (cut n x o branched told).within

module _ {n len : ℕ} {x : Bytes} (c : Cut n x len) where
  pub inner_word : is_dyck_word (len / 2) (inside_part x len) ≡ true
  inner_word = rw (inside-lent c.parts) (dyck_makes c.inner c.inner_size)

  pub outer_word : is_dyck_word (n - 1 - len / 2) (rest_part x len) ≡ true
  outer_word = rw (rest_lent c.parts) (dyck_makes c.outer c.outer_size)

  pub ranked : (p q : ℕ) {s w : ℕ} → (n ≡ 0 → ⊥) → At (dyck_words (len / 2)) (inside_part x len) p → At (dyck_words (n - 1 - len / 2)) (rest_part x len) q
      → s ≡ shorter (n - 1) (len / 2) → w ≡ catalan_of (n - 1 - len / 2) → At (dyck_words n) x (s + p * w + q)
  unfolding word
  ranked p q branched h k e f =
      rw (e, f, add_assoc) (word_at n (len / 2) p q branched c.within (rw (inside-lent c.parts) at h) (rw (rest_lent c.parts) at k) c.parts.whole)
