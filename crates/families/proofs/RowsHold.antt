-- Each kind's laws, a line a kind: every row of the table lists its objects in their order, has their length and count, and says whether there is one.
-- Assumes nothing.
use mathlib.Core.Path.{◌≡◌, refl}
use mathlib.Core.Bool.{Bool, true, false, ◌&&◌, false≢true}
use mathlib.Core.List.Memᴰ
use mathlib.Core.List.{List, [], ◌∷◌}
use Prim.Native.Nat.{ℕ, zero, suc, ◌+◌}
use native.Mathlib.Omega.{arith}
use lib.Dec.{leb, eqb}
use lib.ListN.{length, get_or}
use Rattle.basics.specs.Limits.{places}
use Rattle.basics.specs.Sums.{total}
use Rattle.listings.specs.Bytes.{Bytes}
use Rattle.listings.specs.Listings.{Listing, Ascending}
use Rattle.listings.specs.Rows.{Row, RowLaws}
use Rattle.subsets.proofs.Laws as subset
use Rattle.anagrams.proofs.Laws as anagram
use Rattle.set_partitions.specs.KeyOrder.{edition_of}
use Rattle.set_partitions.proofs.Laws as set-partition
use Rattle.integer_partitions.proofs.Laws as integer-partition
use Rattle.dyck_words.proofs.Laws as dyck-word
use Rattle.derangements.proofs.Laws as derangement
use Rattle.families.specs.declared.Family.{Family}
use Rattle.families.specs.Table.{Lent, no_counts, no_row, table}
use Rattle.families.specs.Families.{row, lists_fit}

-- nothing is an object of no kind
pub empty_listed : (lt : Bytes → Bytes → Bool) {object : Bytes → Bool} → ((x : Bytes) → object x ≡ true → ⊥) → Listing object lt []
empty_listed lt no_object =
    record {
      order =
          record {
            irreflexive = λ x o. absurd (no_object x o);
            transitive = λ x y z o. absurd (no_object x o);
            total = λ x y o. absurd (no_object x o);
          };
      every = λ x o. absurd (no_object x o);
      only = λ x m. absurd (Memᴰ.not-nil m);
      ascending = Ascending.none;
    }

no_row_laws : (b : Lent) → RowLaws (no_row b)
unfolding no_row
no_row_laws b =
    record {
      lists = empty_listed (λ x y. false) (λ x o. false≢true o);
      long = λ x o. absurd (false≢true o);
      counted = λ e h. refl;
      positive = λ e h. refl;
      short = λ e h. absurd (false≢true e);
    }

-- the rows from a kind on, each with its laws and what it says of the counts: "empty for other kinds"
data Rows (b : Lent) : ℕ → List Row → Type 0 where
  none : {kind : ℕ} → Rows b kind []
  more : {kind : ℕ} {r : Row} {l : List Row} → RowLaws r → ((kind ≡ 2 → ⊥) → r.lists_fit ≡ no_counts b) → Rows b (suc kind) l → Rows b kind (r ∷ l)

-- every row is lawful
lawful_rows : (f : Family) (b : Lent) → Rows b 0 (table f b)
unfolding no_row
lawful_rows f b =
    more (no_row_laws b) (λ h. refl)
    (more (subset.laws f.n f.k (no_counts b)) (λ h. refl)
    (more (anagram.laws f.n b.counts (leb f.n places && eqb f.k 0)) (λ h. absurd (h refl))
    (more (anagram.permutation_laws f.n f.k (no_counts b)) (λ h. refl)
    (more (set-partition.laws (edition_of f.edition) f.n f.k (no_counts b)) (λ h. refl)
    (more (integer-partition.laws f.floor f.n f.k (no_counts b)) (λ h. refl)
    (more (dyck-word.laws f.n f.k (no_counts b)) (λ h. refl)
    (more (derangement.laws f.n f.k (no_counts b)) (λ h. refl) none)))))))

laws_at : {b : Lent} {kind : ℕ} {l : List Row} → Rows b kind l → (i : ℕ) → RowLaws (get_or l i (no_row b))
laws_at {b} none i = no_row_laws b
laws_at (more p e t) zero = p
laws_at (more p e t) (suc i) = laws_at t i

counts_at : {b : Lent} {kind : ℕ} {l : List Row} → Rows b kind l → (i : ℕ) → (kind + i ≡ 2 → ⊥) → (get_or l i (no_row b)).lists_fit ≡ no_counts b
unfolding no_row
counts_at none i h = refl
counts_at (more p e t) zero h = e (λ w. h (omega (arith, w)))
counts_at (more p e t) (suc i) h = counts_at t i (λ w. h (omega (arith, w)))

pub row_laws : (f : Family) (b : Lent) → RowLaws (row f b)
unfolding row
row_laws f b = laws_at (lawful_rows f b) f.kind

-- "the count list n long for kind 2 with a sum of at most 80"
pub with_counts_lem : (f : Family) (b : Lent) → f.kind ≡ 2 → lists_fit f b ≡ (eqb (length b.counts) f.n && leb (total b.counts) places)
unfolding lists_fit row
with_counts_lem f b e = rw e

-- "empty for other kinds"
pub no_counts_lem : (f : Family) (b : Lent) → (f.kind ≡ 2 → ⊥) → lists_fit f b ≡ no_counts b
unfolding lists_fit row
no_counts_lem f b h = counts_at (lawful_rows f b) f.kind (λ w. h (omega (arith, w)))
