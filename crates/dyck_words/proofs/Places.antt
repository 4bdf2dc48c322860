-- Where the trees with an inside of a size stand; the first and the last tree, and their words as the code writes them.
-- Assumes nothing.
use mathlib.Core.Path.{◌≡◌, refl, sym, ◌∙◌, ap, subst}
use mathlib.Core.Bool.{Bool, true, false, not}
use mathlib.Core.List.{[], ◌∷◌, ◌++◌, append_assoc}
use Prim.Native.Nat.{ℕ, zero, suc, ◌+◌, ◌*◌, ◌%◌, ◌<◌}
use native.Mathlib.Numerals.{add-one}
use native.Mathlib.Nat.{zero-add}
use native.Mathlib.Omega.{arith}
use lib.ListN.{length, get_or, replicate, replicate-append-replicate}
use Rattle.basics.specs.Sums.{range}
use Rattle.listings.specs.Bytes.{Bytes}
use Rattle.listings.specs.Directions.{Edge, latest, earliest}
use Rattle.listings.proofs.ChoicePlaces.{edge_choice}
use Rattle.listings.proofs.PlaceRules.{first-flat_map, last-flat_map, at_range_from, last-range}
use Rattle.dyck_words.specs.Trees.{Tree, leaf, node, word}
use Rattle.dyck_words.specs.Listing.{nodes, trees}
use Rattle.dyck_words.specs.Inner.Moves.{first_tree, last_tree, start_tree}
use Rattle.dyck_words.proofs.Theorem.{by_inside, trees-zero, trees-suc}

-- the trees whose inside has j branches and whose rest has m
pub inside_part_lem : (j m : ℕ) → by_inside (j + m) j ≡ nodes (trees j) (trees m)
inside_part_lem j m = ap (λ k. nodes (trees j) (trees k)) (omega arith)

-- among them the edge has both parts at the edge
pub parts_edge : {up : Bool} (j m : ℕ) {i r : Tree} → Edge up (trees j) i → Edge up (trees m) r → Edge up (by_inside (j + m) j) (node i r)
unfolding nodes
parts_edge {up} j m {i} {r} h k = subst (λ l. Edge up l (node i r)) (sym (inside_part_lem j m)) (edge_choice (λ i. trees m) node h k)

pub node_edge : {up : Bool} (n j : ℕ) {t : Tree} → Edge up (range 0 (suc n)) j → Edge up (by_inside n j) t → Edge up (trees (suc n)) t
node_edge n j (latest h) (latest k) = rw trees-suc (latest (last-flat_map (by_inside n) h k))
node_edge n j (earliest h) (earliest k) = rw trees-suc (earliest (first-flat_map (by_inside n) (range 0 (suc n)) h k))

-- the longest inside is the last, and none is the first

pub longest_last : (n j : ℕ) → j ≡ n → Edge true (range 0 (suc n)) j
longest_last n j e = latest (last-range 0 (suc n) j (omega arith) (omega arith))

pub empty_first : (n j : ℕ) → j ≡ 0 → Edge false (range 0 (suc n)) j
empty_first n j e = rw e (earliest (at_range_from 0 (suc n) 0 (omega arith) (omega arith)))

pub leaf_edge : (up : Bool) → Edge up (trees 0) leaf
leaf_edge true = rw trees-zero (latest (record { place = 0; here = refl; final = refl }))
leaf_edge false = rw trees-zero (earliest refl)

-- a part that starts over going up is the first, and going back the last
pub start_edge : (up : Bool) (n : ℕ) → Edge (not up) (trees n) (start_tree up n)
unfolding first_tree last_tree
start_edge true zero = leaf_edge false
start_edge true (suc n) = subst (λ m. Edge false (trees (suc m)) (node leaf (first_tree n))) (omega arith) (node_edge (0 + n) 0 (empty_first (0 + n) 0 refl) (parts_edge 0 n (leaf_edge false) (start_edge true n)))
start_edge false zero = leaf_edge true
start_edge false (suc n) = subst (λ m. Edge true (trees (suc m)) (node (last_tree n) leaf)) (omega arith) (node_edge (n + 0) n (longest_last (n + 0) n (omega arith)) (parts_edge n 0 (start_edge false n) (leaf_edge true)))

-- their words

alternates_from : (n a : ℕ) (x : Bytes) → a % 2 ≡ 0 → length x ≡ 2 * n → ((k : ℕ) → k < length x → get_or x k 0 ≡ (a + k + 1) % 2) → x ≡ word (first_tree n)
unfolding word first_tree
alternates_from zero a [] even long reads = refl
alternates_from zero a (b ∷ x) even long reads = absurd (omega arith)
alternates_from (suc n) a [] even long reads = absurd (omega arith)
alternates_from (suc n) a (b ∷ []) even long reads = absurd (omega arith)
alternates_from (suc n) a (b ∷ c ∷ x) even long reads =
    let one : b ≡ 1 = omega (arith, reads 0 (omega arith)) in
    let none : c ≡ 0 = omega (arith, reads 1 (omega arith)) in
    rw (one, none, alternates_from n (a + 2) x (omega arith) (omega arith) (λ k h. reads (suc (suc k)) (omega arith) ∙ ap (λ (m : ℕ). m % 2) (omega arith)))

-- 1 0 1 0 ..
pub alternates : {up : Bool} (n : ℕ) {x : Bytes} → up ≡ true → length x ≡ 2 * n → ((k : ℕ) → k < length x → get_or x k 0 ≡ (k + 1) % 2) → x ≡ word (start_tree up n)
alternates n {x} e long reads = rw e (alternates_from n 0 x refl long (λ k h. rw zero-add (reads k h)))

one_more : (n : ℕ) → replicate {A = ℕ} (suc n) 1 ++ replicate {A = ℕ} (suc n) 0 ≡ 1 ∷ ((replicate n 1 ++ replicate n 0) ++ (0 ∷ []))
one_more n =
    let more : replicate {A = ℕ} n 0 ++ (0 ∷ []) ≡ 0 ∷ replicate n 0 = replicate-append-replicate n 1 0 ∙ ap (λ k. replicate k 0) (add-one n) in
    rw (append_assoc, more)

nested_halves : (n : ℕ) → replicate n 1 ++ replicate n 0 ≡ word (last_tree n)
unfolding word last_tree
nested_halves zero = refl
nested_halves (suc n) = one_more n ∙ ap (λ x. 1 ∷ (x ++ (0 ∷ []))) (nested_halves n)

-- 1 .. 1 0 .. 0
pub nested : {up : Bool} (n : ℕ) {p q : ℕ} {a b : Bytes} → up ≡ false → a ≡ replicate p 1 → b ≡ replicate q 0 → p ≡ n → q ≡ n → a ++ b ≡ word (start_tree up n)
nested n e ones zeros f g = rw (e, ones, zeros, f, g) (nested_halves n)
