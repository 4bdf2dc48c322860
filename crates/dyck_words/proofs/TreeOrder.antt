-- The order of trees is a strict total order on the trees of one size.
-- Assumes nothing.
use mathlib.Core.Path.{◌≡◌, refl, sym, ◌∙◌, ap, ap₂}
use mathlib.Core.Logic.{◌⊎◌, inl, inr, ⊎_elim, ⊎_map}
use mathlib.Core.Bool.{true, ◌&&◌, ◌||◌, false≢true}
use Prim.Native.Nat.{◌<◌}
use native.Mathlib.Omega.{arith}
use lib.Dec.{ltb, eqb}
use borrow.Author.Tests.{ltb-true, lt-ltb, eqb-true, eq-eqb}
use Rattle.basics.proofs.Bools.{and-true, and_makes, or_cases, or_left, or_right}
use Rattle.listings.proofs.OrderFacts.{trichotomy}
use Rattle.dyck_words.specs.Trees.{Tree, leaf, node, size, same_tree, tree_before}

-- the test `same_tree` says whether two trees are equal

pub same_tree-refl : (t : Tree) → same_tree t t ≡ true
unfolding same_tree
same_tree-refl leaf = refl
same_tree-refl (node i r) = and_makes (same_tree-refl i) (same_tree-refl r)

pub same_tree-eq : (t u : Tree) → same_tree t u ≡ true → t ≡ u
unfolding same_tree
same_tree-eq leaf leaf e = refl
same_tree-eq leaf (node j s) e = absurd (false≢true e)
same_tree-eq (node i r) leaf e = absurd (false≢true e)
same_tree-eq (node i r) (node j s) e = let (p, q) = and-true (same_tree i j) (same_tree r s) e in ap₂ node (same_tree-eq i j p) (same_tree-eq r s q)

-- why one tree with a branch comes before another
pub data Earlier (i r j s : Tree) : Type 0 where
  smaller : size i < size j → Earlier i r j s
  inside : size i ≡ size j → tree_before i j ≡ true → Earlier i r j s
  rest : i ≡ j → tree_before r s ≡ true → Earlier i r j s

earlier_elim : {C : Type 0} {i r j s : Tree} → (size i < size j → C) → (size i ≡ size j → tree_before i j ≡ true → C) → (i ≡ j → tree_before r s ≡ true → C) → Earlier i r j s → C
earlier_elim f g h (smaller p) = f p
earlier_elim f g h (inside p q) = g p q
earlier_elim f g h (rest p q) = h p q

before-cases : (i r j s : Tree) → tree_before (node i r) (node j s) ≡ true → Earlier i r j s
unfolding tree_before
before-cases i r j s e = ⊎_elim
    (λ p. smaller (ltb-true (size i) (size j) p))
    (λ p.
    let (as-large, either) = and-true (eqb (size i) (size j)) (tree_before i j || (same_tree i j && tree_before r s)) p in
    ⊎_elim (λ q. inside (eqb-true (size i) (size j) as-large) q) (λ q. let (a, b) = and-true (same_tree i j) (tree_before r s) q in rest (same_tree-eq i j a) b) (or_cases (tree_before i j) (same_tree i j && tree_before r s) either))
    (or_cases (ltb (size i) (size j)) (eqb (size i) (size j) && (tree_before i j || (same_tree i j && tree_before r s))) e)

pub before_makes : {i r j s : Tree} → Earlier i r j s → tree_before (node i r) (node j s) ≡ true
unfolding tree_before
before_makes {i} {r} {j} {s} (smaller h) = or_left (eqb (size i) (size j) && (tree_before i j || (same_tree i j && tree_before r s))) (lt-ltb (size i) (size j) h)
before_makes {i} {r} {j} {s} (inside p q) =
    or_right (ltb (size i) (size j)) (and_makes (eq-eqb (size i) (size j) p) (or_left (same_tree i j && tree_before r s) q))
before_makes {i} {r} {j} {s} (rest p q) =
    or_right (ltb (size i) (size j)) (and_makes (eq-eqb (size i) (size j) (ap size p)) (or_right (tree_before i j) (and_makes {a = same_tree i j} (rw p (same_tree-refl j)) q)))

pub before-irreflexive : (t : Tree) → tree_before t t ≡ true → ⊥
unfolding tree_before
before-irreflexive leaf e = false≢true e
before-irreflexive (node i r) e = earlier_elim (λ h. omega arith) (λ p q. before-irreflexive i q) (λ p q. before-irreflexive r q) (before-cases i r i r e)

pub before-transitive : (t u v : Tree) → tree_before t u ≡ true → tree_before u v ≡ true → tree_before t v ≡ true
unfolding tree_before
before-transitive leaf u v e f = absurd (false≢true e)
before-transitive (node i r) leaf v e f = absurd (false≢true e)
before-transitive (node i r) (node j s) leaf e f = absurd (false≢true f)
before-transitive (node i r) (node j s) (node k t) e f =
    let after = before-cases j s k t f in
    before_makes {r = r} {s = t} (earlier_elim
    (λ h. earlier_elim (λ h'. smaller (omega arith)) (λ p q. smaller (omega arith)) (λ p q. smaller (rw (← p) h)) after)
    (λ p q. earlier_elim (λ h. smaller (omega arith)) (λ p' q'. inside (p ∙ p') (before-transitive i j k q q')) (λ p' q'. inside (p ∙ ap size p') (rw (← p') q)) after)
    (λ p q. earlier_elim (λ h. smaller (rw p h)) (λ p' q'. inside (ap size p ∙ p') (rw p q')) (λ p' q'. rest (p ∙ p') (before-transitive r s t q q')) after)
    (before-cases i r j s e))

pub before-total : (t u : Tree) → size t ≡ size u → (tree_before t u ≡ true) ⊎ ((t ≡ u) ⊎ (tree_before u t ≡ true))
unfolding size
before-total leaf leaf h = inr (inl refl)
before-total leaf (node j s) h = absurd (omega arith)
before-total (node i r) leaf h = absurd (omega arith)
before-total (node i r) (node j s) h = ⊎_elim
    (λ p. inl (before_makes (smaller p)))
    (⊎_elim
    (λ p. ⊎_elim
    (λ q. inl (before_makes (inside p q)))
    (⊎_elim
    (λ q. ⊎_map (λ d. before_makes (rest q d)) (⊎_map (λ d. ap₂ node q d) (λ d. before_makes (rest (sym q) d))) (before-total r s (omega arith)))
    (λ q. inr (inr (before_makes (inside (sym p) q)))))
    (before-total i j p))
    (λ p. inr (inr (before_makes (smaller p)))))
    (trichotomy (size i) (size j))
