-- What a step of a part says of the word: the rest moved; or it stands at the edge, and the inside moved; or both stand at the edge.
-- Assumes nothing.
use mathlib.Core.Path.{◌≡◌, ap, subst}
use mathlib.Core.Bool.{Bool, true, false}
use Prim.Native.Nat.{ℕ, ◌+◌, ◌*◌}
use native.Mathlib.Omega.{arith}
use lib.ListN.{length}
use Rattle.listings.specs.Bytes.{Bytes}
use Rattle.listings.specs.declared.Step.{Step}
use Rattle.listings.specs.declared.Step.TheVariants.{Moved, End}
use Rattle.dyck_words.specs.Trees.{Tree, leaf, node, size, word}
use Rattle.dyck_words.specs.Inner.Moves.{start_tree, AtEdge, AfterStep, Parts}
use Rattle.dyck_words.proofs.Places.{leaf_edge}
use Rattle.dyck_words.proofs.Neighbours.{rest_moves, inside-moves, no_rest, no_inside}
use Rattle.dyck_words.proofs.Lent.{rest_part, with_rest, inside_part, with_inside, rest_long, whole_long, inside-long, only-node, rest_put, inside-put}

-- the empty word is at either edge
pub empty_edge : {up : Bool} {x : Bytes} (t : Tree) → x ≡ word t → length x ≡ 0 → AtEdge up t
unfolding size word
empty_edge {up} leaf e none = leaf_edge up
empty_edge (node i r) e none = absurd (omega (arith, ap length e))

module _ (up : Bool) {x : Bytes} {len : ℕ} {i r : Tree} (p : Parts x len i r) where
  -- what is said of the tree is said of each that has its word
  pub of_any : (s : Step) (z : Bytes) → AfterStep up (node i r) s z → (t : Tree) → x ≡ word t → AfterStep up t s z
  of_any s z h t e = subst (λ t. AfterStep up t s z) (only-node p t e) h

  pub rest_moved : {y : Bytes} → AfterStep up r Moved y → AfterStep up (node i r) Moved (with_rest x len y)
  rest_moved (u, e, f) = (node i u, (rest_put p u e).whole, rest_moves up i r f)

  pub rest_stayed : {y : Bytes} → AfterStep up r End y → Parts (with_rest x len y) len i r × AtEdge up r
  rest_stayed (e, h) = (rest_put p r e, h)

  -- then the inside moved, and the rest starts over as the bytes z
  pub inside-moved : {y z : Bytes} → AtEdge up r → length y ≡ length (inside_part x len) → AfterStep up i Moved y
      → ((n : ℕ) → length (rest_part (with_inside x len y) len) ≡ 2 * n → z ≡ word (start_tree up n)) → AfterStep up (node i r) Moved (with_rest (with_inside x len y) len z)
  inside-moved h same (u, e, f) over =
      let q = inside-put p u e same in
      (node u (start_tree up (size r)), (rest_put q (start_tree up (size r)) (over (size r) (rest_long q))).whole, inside-moves up i r f h)

  pub inside-stayed : {y : Bytes} → length y ≡ length (inside_part x len) → AfterStep up i End y → Parts (with_inside x len y) len i r × AtEdge up i
  inside-stayed same (e, h) = (inside-put p i e same, h)

-- and there is no branch to move between the two

pub end_without_rest : {up : Bool} {x : Bytes} {len : ℕ} {i r : Tree} → up ≡ true → len + 2 ≡ length x → Parts x len i r → AtEdge up i → AtEdge up r → (x ≡ word (node i r)) × AtEdge up (node i r)
end_without_rest {i = i} {r} e none p h k = (p.whole, no_rest i r e (omega (arith, whole_long p)) h k)

pub end_without_inside : {up : Bool} {x : Bytes} {len : ℕ} {i r : Tree} → up ≡ false → len ≡ 0 → Parts x len i r → AtEdge up i → AtEdge up r → (x ≡ word (node i r)) × AtEdge up (node i r)
end_without_inside {i = i} {r} e none p h k = (p.whole, no_inside i r e (omega (arith, inside-long p)) h k)
