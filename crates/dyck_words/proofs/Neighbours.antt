-- Which tree follows which, on and back: the rest moves; or the inside does and the rest starts over; or the inside's size changes and both start over. And what that says of their words.
-- Assumes nothing.
use mathlib.Core.Path.{◌≡◌, sym, subst}
use mathlib.Core.Bool.{Bool, true, false, not}
use mathlib.Core.List.{List}
use Prim.Native.Nat.{ℕ, suc, ◌+◌}
use native.Mathlib.Omega.{arith}
use Rattle.basics.specs.Sums.{range}
use Rattle.basics.proofs.Ranges.{in_range}
use Rattle.listings.specs.Bytes.{Bytes}
use Rattle.listings.specs.Calls.{Said, act}
use Rattle.listings.specs.Places.{Follows, First, Last}
use Rattle.listings.specs.Directions.{step_call, Beside, after, before, Edge, latest, earliest}
use Rattle.listings.specs.Steps.{step_as}
use Rattle.listings.specs.declared.Step.{Step}
use Rattle.listings.specs.declared.Step.TheVariants.{Moved, End}
use Rattle.listings.proofs.ChoicePlaces.{beside-inside, beside_seam}
use Rattle.listings.proofs.PlaceRules.{follows_map, first-map, last-map, follows_flat_map_inside, follows_flat_map_seam, follows_range}
use Rattle.listings.proofs.Ranks.{edge_first, edge_last}
use Rattle.listings.proofs.Stepping.{steps, stops}
use Rattle.dyck_words.specs.Objects.{is_dyck_word}
use Rattle.dyck_words.specs.Trees.{Tree, node, size, word, parse, dyck_before}
use Rattle.dyck_words.specs.Listing.{nodes, trees, dyck_words}
use Rattle.dyck_words.specs.Inner.Moves.{first_tree, last_tree, start_tree, Neighbour, AtEdge, AfterStep}
use Rattle.dyck_words.proofs.Facts.{dyck_cases}
use Rattle.dyck_words.proofs.Theorem.{by_inside, trees-suc, trees-every, lists}
use Rattle.dyck_words.proofs.Places.{inside_part_lem, parts_edge, node_edge, longest_last, empty_first, start_edge}

-- what keeps neighbours keeps them in either direction
beside_by : {A B : Type 0} {up : Bool} {l : List A} {m : List B} {x y : A} (f : A → B) → ((x y : A) → Follows l x y → Follows m (f x) (f y)) → Beside up l x y → Beside up m (f x) (f y)
beside_by f keeps (after s) = after (keeps _ _ s)
beside_by f keeps (before s) = before (keeps _ _ s)

-- neighbours whose insides have as many branches
within : {up : Bool} (j m : ℕ) {t u : Tree} → Beside up (nodes (trees j) (trees m)) t u → Beside up (trees (suc (j + m))) t u
within j m = beside_by (λ t. t) (λ t u s. rw trees-suc (follows_flat_map_inside (by_inside (j + m)) (in_range 0 (suc (j + m)) {x = j} (omega arith) (omega arith)) (rw (← inside_part_lem j m) at s)))

-- and at the seam of two sizes
across : {up : Bool} (n : ℕ) {j k : ℕ} {t u : Tree} → Beside up (range 0 (suc n)) j k → Edge up (by_inside n j) t → Edge (not up) (by_inside n k) u → Beside up (trees (suc n)) t u
across n (after f) (latest h) (earliest k) = rw trees-suc (after (follows_flat_map_seam (by_inside n) f h k))
across n (before f) (earliest h) (latest k) = rw trees-suc (before (follows_flat_map_seam (by_inside n) f k h))

module _ (up : Bool) (i r : Tree) {u : Tree} where
  pub rest_moves : Neighbour up r u → Neighbour up (node i r) (node i u)
  unfolding size nodes
  rest_moves f = within (size i) (size r) (beside-inside (λ i. trees (size r)) node (trees-every i) f)

  pub inside-moves : Neighbour up i u → AtEdge up r → Neighbour up (node i r) (node u (start_tree up (size r)))
  unfolding size nodes
  inside-moves f h = within (size i) (size r) (beside_seam (λ i. trees (size r)) node f h (start_edge up (size r)))

-- where neither the rest nor the inside moves, the inside changes its size, or there is nothing to change

module _ {up : Bool} (i r : Tree) where
  resized : (j m : ℕ) → j + m ≡ size i + size r → Beside up (range 0 (suc (size i + size r))) (size i) j → AtEdge up i → AtEdge up r → Neighbour up (node i r) (node (start_tree up j) (start_tree up m))
  unfolding size
  resized j m e f h k =
      across (size i + size r) f (parts_edge (size i) (size r) h k)
      (subst (λ n. Edge (not up) (by_inside n j) (node (start_tree up j) (start_tree up m))) e (parts_edge j m (start_edge up j) (start_edge up m)))

  pub grows : (m : ℕ) → up ≡ true → size r ≡ suc m → AtEdge up i → AtEdge up r → Neighbour up (node i r) (node (start_tree up (suc (size i))) (start_tree up m))
  grows m d e = resized (suc (size i)) m (omega arith) (rw d (after (follows_range 0 (suc (size i + size r)) (size i) (omega arith) (omega arith))))

  pub shrinks : (j : ℕ) → up ≡ false → size i ≡ suc j → AtEdge up i → AtEdge up r → Neighbour up (node i r) (node (start_tree up j) (start_tree up (suc (size r))))
  shrinks j d e = resized j (suc (size r)) (omega arith) (rw (d, e) (before (follows_range 0 (suc (suc j + size r)) j (omega arith) (omega arith))))

  ends : Edge up (range 0 (suc (size i + size r))) (size i) → AtEdge up i → AtEdge up r → AtEdge up (node i r)
  unfolding size
  ends e h k = node_edge (size i + size r) (size i) e (parts_edge (size i) (size r) h k)

  pub no_rest : up ≡ true → size r ≡ 0 → AtEdge up i → AtEdge up r → AtEdge up (node i r)
  no_rest d e = ends (rw d (longest_last (size i + size r) (size i) (omega arith)))

  pub no_inside : up ≡ false → size i ≡ 0 → AtEdge up i → AtEdge up r → AtEdge up (node i r)
  no_inside d e = ends (rw d (empty_first (size i + size r) (size i) e))

-- the words of the trees

pub word_edge : {up : Bool} (n : ℕ) {t : Tree} → Edge up (trees n) t → Edge up (dyck_words n) (word t)
unfolding dyck_words
word_edge n (latest h) = latest (last-map word h)
word_edge n (earliest h) = earliest (first-map word (trees n) h)

pub first_word : (n : ℕ) {x : Bytes} → x ≡ word (first_tree n) → First (dyck_words n) x
first_word n e = rw e (edge_first (word_edge n (start_edge true n)))

pub last_word : (n : ℕ) {x : Bytes} → x ≡ word (last_tree n) → Last (dyck_words n) x
last_word n e = rw e (edge_last (word_edge n (start_edge false n)))

-- what a step on the tree of a word says of the word
module _ (up : Bool) (n : ℕ) (x : Bytes) (o : is_dyck_word n x ≡ true) where
  said_of : (s : Step) (y : Bytes) → AfterStep up (parse x) s y → ◌≡◌ {A = Said} (step_as s, y) (act (step_call up) dyck_before (dyck_words n) x)
  unfolding dyck_words
  said_of Moved y (u, e, f) = let d = dyck_cases n x o in rw e (steps (lists n) (rw (d.spelled, d.sized) at (beside_by word (λ t u. follows_map word) f)))
  said_of End y (e, l) = let d = dyck_cases n x o in rw (e, d.spelled) (stops (lists n) (rw (d.spelled, d.sized) at (word_edge (size (parse x)) l)))

  pub said : (s : Step) (y : Bytes) → ((t : Tree) → x ≡ word t → AfterStep up t s y) → ◌≡◌ {A = Said} (step_as s, y) (act (step_call up) dyck_before (dyck_words n) x)
  said s y stepped = said_of s y (stepped (parse x) (sym (dyck_cases n x o).spelled))
