-- Where a word stands: behind the words with a shorter inside, at the inside's place times the rests, at the rest's place.
-- Assumes nothing.
use mathlib.Core.Path.{◌≡◌, refl, sym, ◌∙◌, ap, ap₂, subst}
use mathlib.Core.Option.{Option, some}
use mathlib.Core.List.{[], ◌∷◌, ◌++◌, flat_map}
use Prim.Native.Nat.{ℕ, zero, suc, ◌+◌, ◌-◌, ◌*◌, ◌/◌, ◌%◌, ◌^◌, ◌≤◌, ◌<◌}
use native.Mathlib.Nat.{zero-add, add-zero, lt_of_le_of_lt, mod-lt, div-lt_iff_lt-mul, div-add-mod'}
use native.Mathlib.Decide.{le_ind}
use native.Mathlib.Omega.{arith}
use lib.ListN.{length}
use native.Mathlib.Numerals.{add-one}
use Rattle.std.proofs.lemmas.List.Sums.{sum_by-cons}
use Rattle.std.specs.List.{sum_by, range_with_len}
use Rattle.basics.specs.Sums.{range, sum_over}
use Rattle.numbers.specs.Numbers.{catalan_of}
use Rattle.basics.proofs.Ranges.{sum_over_cong, sum_over-append, range_snoc, take_range}
use Rattle.numbers.proofs.Laws.{convolution, product_le, catalan_positive, catalan_mono}
use Rattle.listings.specs.Bytes.{Bytes}
use Rattle.listings.specs.Places.{At, count_before}
use Rattle.listings.proofs.Members.{length-flat_map}
use Rattle.listings.proofs.PlaceRules.{at_below, at_exists, at_unique_element, at_map, at_flat_map, length_pairs, at_pairs, at_range}
use Rattle.listings.proofs.Ranks.{place-is_rank}
use Rattle.dyck_words.specs.Trees.{Tree, node, word, dyck_before}
use Rattle.dyck_words.specs.Listing.{nodes, trees, dyck_words}
use Rattle.dyck_ranks.specs.Inner.Shorter.{shorter}
use Rattle.dyck_words.proofs.Theorem.{by_inside, trees-zero, trees-suc, trees-counted, lists, counted}

-- the words of n + 1 branches whose inside has fewer than j

pub shorter-zero : (n : ℕ) → shorter n 0 ≡ 0
unfolding shorter range sum_over
shorter-zero n = refl

pub shorter-suc : (n j : ℕ) → shorter n (suc j) ≡ shorter n j + catalan_of j * catalan_of (n - j)
unfolding shorter sum_over
shorter-suc n j = rw (range_snoc, sum_over-append, zero-add, add-zero)

pub shorter_more : (n j : ℕ) → shorter n (j + 1) ≡ shorter n j + catalan_of j * catalan_of (n - j)
shorter_more n j = rw add-one (shorter-suc n j)

pub shorter_all : (n : ℕ) → shorter n (suc n) ≡ catalan_of (suc n)
unfolding shorter
shorter_all n = sym (convolution n)

summed : (f : ℕ → ℕ) (a n : ℕ) → sum_by f (range_with_len a n) ≡ sum_over (range a n) f
unfolding sum_over range
summed f a zero = refl
summed f a (suc n) = sum_by-cons f a (range_with_len (a + 1) n) ∙ ap (λ (m : ℕ). f a + m) (ap (λ (b : ℕ). sum_by f (range_with_len b n)) (add-one a) ∙ summed f (suc a) n)

pub shorter-sum : (n j : ℕ) → sum_by (λ l. catalan_of l * catalan_of (n - l)) (range_with_len 0 j) ≡ shorter n j
unfolding shorter
shorter-sum n j = summed (λ l. catalan_of l * catalan_of (n - l)) 0 j

pub shorter-le : (n j : ℕ) → j ≤ suc n → shorter n j ≤ catalan_of (suc n)
shorter-le n j h = rw (← shorter_all n) (le_ind (λ (m : ℕ). shorter n j ≤ shorter n m) (omega arith) (λ m _ p. omega (arith, shorter-suc n m)) (suc n) h)

-- what fits where the whole number does

pub fewer_fit : (m n : ℕ) → m ≤ n → catalan_of n < 2 ^ 64 → catalan_of m < 2 ^ 64
fewer_fit m n h fits = lt_of_le_of_lt (catalan_mono h) fits

pub share_fits : (n j : ℕ) → j ≤ n → catalan_of (suc n) < 2 ^ 64 → catalan_of j * catalan_of (n - j) < 2 ^ 64
share_fits n j h fits = lt_of_le_of_lt (product_le n j h) fits

pub ruleset shares = (shorter-zero, shorter-suc, shorter_more, shorter_all)

-- where a word stands

-- the trees with a smaller inside
smaller : (n j : ℕ) → length (flat_map (by_inside n) (range 0 j)) ≡ shorter n j
unfolding nodes shorter
smaller n j = length-flat_map (by_inside n) (range 0 j)
    ∙ sum_over_cong (range 0 j) (λ i _. length_pairs node (trees i) (trees (n - i)) ∙ ap₂ (λ (a b : ℕ). a * b) (trees-counted i) (trees-counted (n - i)))

tree_at : (n j p q : ℕ) {i r : Tree} → j ≤ n → At (trees j) i p → At (trees (n - j)) r q → At (trees (suc n)) (node i r) (shorter n j + (p * catalan_of (n - j) + q))
unfolding nodes
tree_at n j p q h k m =
    rw (trees-suc, ← smaller n j, ← take_range 0 (suc n) j (omega arith), ← trees-counted (n - j))
    (at_flat_map (by_inside n) (range 0 (suc n)) j (p * length (trees (n - j)) + q) (rw zero-add at (at_range 0 (suc n) j (omega arith))) (at_pairs node (trees j) (trees (n - j)) p q k m))

-- the tree of the word at a place
tree_of : (n p : ℕ) {x : Bytes} → At (dyck_words n) x p → (t : Tree) × (At (trees n) t p) × (x ≡ word t)
unfolding dyck_words
tree_of n p h =
    let (t, k) = at_exists (trees n) p (omega (arith, at_below (dyck_words n) p h, counted n, trees-counted n)) in
    (t, k, at_unique_element (dyck_words n) p h (at_map word (trees n) p k))

-- a word with a branch
pub word_at : (n j p q : ℕ) {x y z : Bytes} → (n ≡ 0 → ⊥) → j ≤ n - 1 → At (dyck_words j) x p → At (dyck_words (n - 1 - j)) y q → z ≡ 1 ∷ (x ++ (0 ∷ y))
    → At (dyck_words n) z (shorter (n - 1) j + (p * catalan_of (n - 1 - j) + q))
unfolding dyck_words word
word_at n j p q {z} branched h k m e =
    let (i, k', f) = tree_of j p k in
    let (r, m', g) = tree_of (n - 1 - j) q m in
    let whole : suc (n - 1) ≡ n = omega arith in
    let place = shorter (n - 1) j + (p * catalan_of (n - 1 - j) + q) in
    subst (λ i. At (dyck_words i) z place) whole (rw (e, f, g) (at_map word (trees (suc (n - 1))) place (tree_at (n - 1) j p q h k' m')))

-- its place is its rank
pub place_tells : (n p : ℕ) {x : Bytes} → At (dyck_words n) x p → p ≡ count_before dyck_before x (dyck_words n)
place_tells n p h = sym (place-is_rank (lists n) p h)

-- the word of no branches
pub empty_at : {n : ℕ} {x : Bytes} → n ≡ 0 → length x ≡ 2 * n → At (dyck_words n) x 0
unfolding dyck_words word
empty_at {n} {x} e long = rw (e, trees-zero) (none x (omega arith))
  where
    none : (x : Bytes) → length x ≡ 0 → ◌≡◌ {A = Option Bytes} (some []) (some x)
    none [] h = refl
    none (b ∷ x) h = absurd (omega arith)

-- a rank falls into the words with a shorter inside, w rests for each earlier inside, and the rest's rank

pub record Shared (m j rank left w : ℕ) : Type 0 where
  pub inside : left / w < catalan_of j
  pub rest : left % w < catalan_of (m - j)
  pub all : shorter m j + (left / w * catalan_of (m - j) + left % w) ≡ rank

pub shared : {m j rank left w : ℕ} → shorter m j + left ≡ rank → rank < shorter m (suc j) → w ≡ catalan_of (m - j) → Shared m j rank left w
shared {m} {j} {rank} {left} {w} whole high e =
    let positive : 0 < w = omega (arith, catalan_positive (m - j)) in
    let room : left < catalan_of j * w = rw e (omega (arith, shorter-suc m j)) in
    record {
      inside = (div-lt_iff_lt-mul positive).1 room;
      rest = rw (← e) (mod-lt left positive);
      all = rw (← e) (omega (arith, div-add-mod' left w));
    }

-- so the word of a rank is put together from the words of two
pub unranked : (n : ℕ) {j rank left w : ℕ} {a b y : Bytes} → (n ≡ 0 → ⊥) → j ≤ n - 1 → Shared (n - 1) j rank left w
    → At (dyck_words j) a (left / w) → At (dyck_words (n - 1 - j)) b (left % w) → y ≡ 1 ∷ (a ++ (0 ∷ b)) → At (dyck_words n) y rank
unranked n {j} {rank} {left} {w} {y = y} branched h parts k m e =
    subst (At (dyck_words n) y) parts.all (word_at n j (left / w) (left % w) branched h k m e)
