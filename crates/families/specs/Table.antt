-- Paper 01's table of families (SCOPE 1): what is lent beside a family, and a row for each kind, over the family and everything lent.
-- Assumes nothing.
use Rattle.std.specs.Prelude.{Bool, true, false, not, ◌&&◌, ◌||◌, List, [], ◌∷◌, ℕ, ◌*◌, leb, ltb, eqb, length, get_or}
use Rattle.basics.specs.Limits.{places, branches}
use Rattle.basics.specs.Sums.{total}
use Rattle.numbers.specs.Numbers.{choose, multinomial_of, factorial_of, stirling_of, parts_from, catalan_of, derangements_of}
use Rattle.listings.specs.Rows.{Row}
use Rattle.subsets.specs.Objects.{is_subset, subset_before}
use Rattle.subsets.specs.Listing.{subsets}
use Rattle.anagrams.specs.Objects.{is_anagram, anagram_before}
use Rattle.anagrams.specs.Listing.{anagrams}
use Rattle.anagrams.specs.Permutations.{is_permutation, permutations}
use Rattle.set_partitions.specs.KeyOrder.{edition_of}
use Rattle.set_partitions.specs.Objects.{is_set_partition, set_partition_before}
use Rattle.set_partitions.specs.Listing.{set_partitions}
use Rattle.integer_partitions.specs.Objects.{is_integer_partition, integer_partition_before}
use Rattle.integer_partitions.specs.Listing.{integer_partitions}
use Rattle.dyck_words.specs.Objects.{is_dyck_word}
use Rattle.dyck_words.specs.Trees.{dyck_before}
use Rattle.dyck_words.specs.Listing.{dyck_words}
use Rattle.derangements.specs.Objects.{is_derangement, derangement_before}
use Rattle.derangements.specs.Listing.{derangements}
use Rattle.families.specs.declared.Family.{Family}

-- everything lent beside a family, a field a list: "a lent list of letter counts, one byte a letter, filled only for kind 2" (SCOPE 1.a)
pub record Lent : Type 0 where
  pub counts : List ℕ

-- the lists by their places
abbrev pub lent : List (List ℕ) → Lent
lent lists = record { counts = get_or lists 0 [] }

-- letter counts, and no other list: a place where nothing stands is an empty list
abbrev pub only_counts : List ℕ → Lent
only_counts counts = lent (counts ∷ [])

-- a family of which no more is said than this: "Floor 1 is the split of old" (SCOPE 1.e), and edition 1 the order of old (SCOPE 1.f); later fields have
-- their defaults
abbrev pub plain_family : ℕ → ℕ → ℕ → Family
plain_family kind n k = record { kind = kind; n = n; k = k; floor = 1; edition = 1 }

-- "empty for other kinds" (SCOPE 4.3)
unfoldable pub no_counts : Lent → Bool
no_counts b = eqb (length b.counts) 0

-- 1 sites used: "n, k 0 to 80", "k site numbers from 1 to n, strictly ascending" (SCOPE 1.1); "no object when k > n" (SCOPE 1.b)
abbrev pub subset_row : Family → Lent → Row
subset_row f b = record {
  in_bounds = leb f.n places && leb f.k places;
  lists_fit = no_counts b;
  object_length = f.k;
  is_object = is_subset f.n f.k;
  comes_before = subset_before;
  listing = subsets f.n f.k;
  number = choose f.n f.k;
  has_object = leb f.k f.n;
}

-- 2 hanging: "n letters, 0 to 80; k is 0", "word with letter i exactly as often as count i says" (SCOPE 1.2); "the count list n long .. with a sum of
-- at most 80" (SCOPE 4.3)
abbrev pub anagram_row : Family → Lent → Row
anagram_row f b = record {
  in_bounds = leb f.n places && eqb f.k 0;
  lists_fit = eqb (length b.counts) f.n && leb (total b.counts) places;
  object_length = total b.counts;
  is_object = is_anagram b.counts;
  comes_before = anagram_before;
  listing = anagrams b.counts;
  number = multinomial_of b.counts;
  has_object = true;
}

-- 3 pouring order: "n 0 to 80; k is 0", "each of 1 to n" (SCOPE 1.3)
abbrev pub permutation_row : Family → Lent → Row
permutation_row f b = record {
  in_bounds = leb f.n places && eqb f.k 0;
  lists_fit = no_counts b;
  object_length = f.n;
  is_object = is_permutation f.n;
  comes_before = anagram_before;
  listing = permutations f.n;
  number = factorial_of f.n;
  has_object = true;
}

-- 4 flask sharing: "n, k 0 to 80", "byte i is the block of model i" (SCOPE 1.4); "no object when k > n", "none when k = 0 < n" (SCOPE 1.b); "edition 1 or
-- 2" says the order (SCOPE 1.f)
abbrev pub set_partition_row : Family → Lent → Row
set_partition_row f b = record {
  in_bounds = leb f.n places && leb f.k places;
  lists_fit = no_counts b;
  object_length = f.n;
  is_object = is_set_partition f.n f.k;
  comes_before = set_partition_before (edition_of f.edition);
  listing = set_partitions (edition_of f.edition) f.n f.k;
  number = stirling_of f.n f.k;
  has_object = leb f.k f.n && (ltb 0 f.k || eqb f.n 0);
}

-- 5 batch split: "n, k 0 to 80", "k parts, .. weakly descending, sum n" (SCOPE 1.5), "every part of kind 5 is at least that floor" (SCOPE 1.e): k times
-- the floor is at most n; "none when k = 0 < n" (SCOPE 1.b)
abbrev pub integer_partition_row : Family → Lent → Row
integer_partition_row f b = record {
  in_bounds = leb f.n places && leb f.k places;
  lists_fit = no_counts b;
  object_length = f.k;
  is_object = is_integer_partition f.floor f.n f.k;
  comes_before = integer_partition_before;
  listing = integer_partitions f.floor f.n f.k;
  number = parts_from f.floor f.n f.k;
  has_object = leb (f.k * f.floor) f.n && (ltb 0 f.k || eqb f.n 0);
}

-- 6 branch plan: "n branches, 0 to 40; k is 0", "2n bytes 1 .. and 0 .., as many of each, no prefix with more 0 than 1" (SCOPE 1.6)
abbrev pub dyck_word_row : Family → Lent → Row
dyck_word_row f b = record {
  in_bounds = leb f.n branches && eqb f.k 0;
  lists_fit = no_counts b;
  object_length = 2 * f.n;
  is_object = is_dyck_word f.n;
  comes_before = dyck_before;
  listing = dyck_words f.n;
  number = catalan_of f.n;
  has_object = true;
}

-- 7 nobody on last week's hook: "n from 0 to 80, k = 0", "a permutation with f(i) never i" (SCOPE 1.7); "n = 1 has none" (SCOPE 1.b)
abbrev pub derangement_row : Family → Lent → Row
derangement_row f b = record {
  in_bounds = leb f.n places && eqb f.k 0;
  lists_fit = no_counts b;
  object_length = f.n;
  is_object = is_derangement f.n;
  comes_before = derangement_before f.n;
  listing = derangements f.n;
  number = derangements_of f.n;
  has_object = not (eqb f.n 1);
}

-- a number that is no kind, which question 1 refuses (SCOPE 4.1)
unfoldable pub no_row : Lent → Row
no_row b = record {
  in_bounds = false;
  lists_fit = no_counts b;
  object_length = 0;
  is_object = λ x. false;
  comes_before = λ x y. false;
  listing = [];
  number = 0;
  has_object = false;
}

-- the table: each kind's row stands at its number, from 1 on (SCOPE 1.1 to 1.7)
abbrev pub table : Family → Lent → List Row
table f b =
    no_row b
    ∷ subset_row f b
    ∷ anagram_row f b
    ∷ permutation_row f b
    ∷ set_partition_row f b
    ∷ integer_partition_row f b
    ∷ dyck_word_row f b
    ∷ derangement_row f b
    ∷ []

-- the last kind of the table (SCOPE 4.1)
abbrev pub last_kind : ℕ
last_kind = 7
