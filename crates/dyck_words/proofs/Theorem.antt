-- `dyck_words n` is the listing of the Dyck words of n branches, and its length is the Catalan number of n: so it is for the trees, by the inside's size.
-- Assumes nothing.
use mathlib.Core.Path.{◌≡◌, refl, sym, ◌∙◌, ap, ap₂}
use mathlib.Core.Bool.{Bool, true, false, ◌&&◌, false≢true}
use mathlib.Core.List.{List, [], ◌∷◌, flat_map, Memᴰ}
use mathlib.Core.WellFounded.{fix}
use Prim.Native.Nat.{ℕ, zero, suc, ◌+◌, ◌-◌, ◌*◌, ◌≤◌, ◌<◌}
use native.Mathlib.Nat.{sub-zero, suc-sub-suc}
use native.Mathlib.Omega.{arith}
use lib.Dec.{eqb}
use lib.WfN.{lt-wf_rel}
use lib.ListN.{length, get_or, length-map}
use borrow.Author.Tests.{ltb-true, eqb-true, eq-eqb}
use Rattle.basics.specs.Limits.{branches, longest_object}
use Rattle.basics.specs.Sums.{range}
use Rattle.basics.proofs.Bools.{and-true, and_makes}
use Rattle.basics.proofs.Ranges.{sum_over_cong, between, in_range}
use Rattle.numbers.specs.Numbers.{catalan_of}
use Rattle.numbers.proofs.Laws.{convolution, catalan_zero}
use Rattle.listings.specs.Bytes.{Bytes}
use Rattle.listings.specs.Listings.{StrictTotal, Listing}
use Rattle.listings.proofs.AscendingRules.{ascending-range}
use Rattle.listings.proofs.ChoiceRules.{one_rule, Taken, choice_rule}
use Rattle.listings.proofs.LoehrRules.{sum_rule, bijection_rule}
use Rattle.listings.proofs.Members.{flat_map_cong, length-flat_map}
use Rattle.listings.proofs.PlaceRules.{length_pairs}
use Rattle.dyck_words.specs.Objects.{is_dyck_word}
use Rattle.dyck_words.specs.Trees.{Tree, leaf, node, size, tree_before, word, parse, dyck_before}
use Rattle.dyck_words.specs.Listing.{nodes, trees_down, trees, dyck_words}
use Rattle.dyck_words.proofs.Facts.{word-length, word-order, dyck_cases, dyck_makes}
use Rattle.dyck_words.proofs.TreeOrder.{smaller, inside, rest, before_makes, before-irreflexive, before-transitive, before-total}

-- the rule of the list of trees

pub trees-zero : trees 0 ≡ leaf ∷ []
unfolding trees trees_down
trees-zero = refl

down_at : (n i : ℕ) → i ≤ n → get_or (trees_down n) i [] ≡ trees (n - i)
unfolding trees trees_down
down_at n zero h = ap trees (sym (sub-zero n))
down_at zero (suc i) h = absurd (omega arith)
down_at (suc n) (suc i) h = down_at n i (omega arith) ∙ ap trees (sym (suc-sub-suc n i))

-- of the trees of n + 1 branches, those whose inside has j
abbrev pub by_inside : ℕ → ℕ → List Tree
by_inside n j = nodes (trees j) (trees (n - j))

pub trees-suc : (n : ℕ) → trees (suc n) ≡ flat_map (by_inside n) (range 0 (suc n))
unfolding trees trees_down
trees-suc n = flat_map_cong (range 0 (suc n)) (λ j m.
    let b = between 0 (suc n) m in
    let back : n - (n - j) ≡ j = omega arith in
    ap₂ nodes (down_at n (n - j) (omega arith) ∙ ap trees back) (down_at n j (omega arith)))

-- what is true of 0, and of n + 1 if of all numbers up to n, is true of all
by_smaller : (P : ℕ → Type 0) → P 0 → ((n : ℕ) → ((j : ℕ) → j ≤ n → P j) → P (suc n)) → (n : ℕ) → P n
by_smaller P start step n = fix {C = P} lt-wf_rel.wf cases n
  where
    cases : (n : ℕ) → ((j : ℕ) → j < n → P j) → P n
    cases zero below = start
    cases (suc n) below = step n (λ j h. below j (omega arith))

-- has the tree n branches, and has it an inside of j and a rest of m?

abbrev sized : ℕ → Tree → Bool
sized n t = eqb (size t) n

has_parts : ℕ → ℕ → Tree → Bool
has_parts j m leaf = false
has_parts j m (node i r) = sized j i && sized m r

parts_size : (j m : ℕ) (t : Tree) → has_parts j m t ≡ true → size t ≡ suc (j + m)
unfolding has_parts size
parts_size j m leaf o = absurd (false≢true o)
parts_size j m (node i r) o = let (p, q) = and-true (sized j i) (sized m r) o in omega (arith, eqb-true (size i) j p, eqb-true (size r) m q)

-- a tree with a branch has an inside of some size
inside-size : (n : ℕ) (t : Tree) → sized (suc n) t ≡ true → (j : ℕ) × Memᴰ j (range 0 (suc n)) × (has_parts j (n - j) t ≡ true)
unfolding has_parts size
inside-size n leaf o = absurd (omega (arith, eqb-true 0 (suc n) o))
inside-size n (node i r) o =
    let e = eqb-true (suc (size i + size r)) (suc n) o in
    (size i, in_range 0 (suc n) (omega arith) (omega arith), and_makes (eq-eqb (size i) (size i) refl) (eq-eqb (size r) (n - size i) (omega arith)))

-- and the smaller inside comes first
shorter-first : (j k l m : ℕ) (t u : Tree) → j < k → has_parts j l t ≡ true → has_parts k m u ≡ true → tree_before t u ≡ true
unfolding has_parts
shorter-first j k l m leaf u h o p = absurd (false≢true o)
shorter-first j k l m (node i r) leaf h o p = absurd (false≢true p)
shorter-first j k l m (node i r) (node i' r') h o p = before_makes (smaller (omega (arith, eqb-true (size i) j (and-true (sized j i) (sized l r) o).0, eqb-true (size i') k (and-true (sized k i') (sized m r') p).0)))

-- the listing of the trees

strict : {object : Tree → Bool} (n : ℕ) → ((t : Tree) → object t ≡ true → size t ≡ n) → StrictTotal object tree_before
strict n as-large = record {
  irreflexive = λ t o. before-irreflexive t;
  transitive = λ t u v o p q. before-transitive t u v;
  total = λ t u o p. before-total t u (as-large t o ∙ sym (as-large u p));
}

-- the product rule
nodes_listed : (j m : ℕ) {is rs : List Tree} → Listing (sized j) tree_before is → Listing (sized m) tree_before rs → Listing (has_parts j m) tree_before (nodes is rs)
unfolding nodes has_parts
nodes_listed j m {is} {rs} insides rests =
    choice_rule (λ i. rs) node
    (record {
      object_of = λ i. sized m;
      lt_of = λ i. tree_before;
      ltc = tree_before;
      order = strict (suc (j + m)) (parts_size j m);
      rising = insides.ascending;
      parts = λ i k. rests;
      off = apart;
      on = λ i r k o. and_makes (insides.only i k) o;
      less = λ i i' r s k k' h o p. before_makes (inside (eqb-true (size i) j (insides.only i k) ∙ sym (eqb-true (size i') j (insides.only i' k'))) h);
      tie = λ i r s k o p h. before_makes (rest refl h);
    })
  where
    apart : (t : Tree) → has_parts j m t ≡ true → Taken is node (λ i. sized m) t
    apart leaf o = absurd (false≢true o)
    apart (node i r) o = let (p, q) = and-true (sized j i) (sized m r) o in record { choice = i; listed = insides.every i p; left = r; object = q; whole = refl }

only-leaf : (t : Tree) → sized 0 t ≡ true → t ≡ leaf
unfolding size
only-leaf leaf o = refl
only-leaf (node i r) o = absurd (omega (arith, eqb-true (suc (size i + size r)) 0 o))

-- the sum rule, over the sizes of the inside
trees_listed : (n : ℕ) → Listing (sized n) tree_before (trees n)
unfolding size
trees_listed = by_smaller (λ n. Listing (sized n) tree_before (trees n))
    (rw trees-zero (one_rule (strict 0 (λ t o. eqb-true (size t) 0 o)) leaf refl only-leaf))
    (λ n below. rw trees-suc (sum_rule {object_of = λ j. has_parts j (n - j)} (by_inside n) (strict (suc n) (λ t o. eqb-true (size t) (suc n) o)) (ascending-range 0 (suc n))
    (λ j k. let b = between 0 (suc n) k in nodes_listed j (n - j) (below j (omega arith)) (below (n - j) (omega arith)))
    (inside-size n)
    (λ j t k o. let b = between 0 (suc n) k in eq-eqb (size t) (suc n) (omega (arith, parts_size j (n - j) t o)))
    (λ j j' k k' h t u. shorter-first j j' (n - j) (n - j') t u (ltb-true j j' h))))

pub trees-every : (t : Tree) → Memᴰ t (trees (size t))
trees-every t = (trees_listed (size t)).every t (eq-eqb (size t) (size t) refl)

pub trees-counted : (n : ℕ) → length (trees n) ≡ catalan_of n
unfolding nodes
trees-counted = by_smaller (λ n. length (trees n) ≡ catalan_of n)
    (rw (trees-zero, catalan_zero))
    (λ n below. rw (trees-suc, convolution) (length-flat_map (by_inside n) (range 0 (suc n))
    ∙ sum_over_cong (range 0 (suc n)) (λ j k. let b = between 0 (suc n) k in
    length_pairs node (trees j) (trees (n - j)) ∙ ap₂ (λ (a b : ℕ). a * b) (below j (omega arith)) (below (n - j) (omega arith)))))

-- and of their words, by the bijection rule

pub lists : (n : ℕ) → Listing (is_dyck_word n) dyck_before (dyck_words n)
unfolding dyck_words
lists n = bijection_rule (trees_listed n) word parse
    (λ t o. dyck_makes t (eqb-true (size t) n o))
    (λ x o. eq-eqb (size (parse x)) n (dyck_cases n x o).sized)
    (λ x o. (dyck_cases n x o).spelled)
    (λ t u o p. sym (word-order t u))

pub counted : (n : ℕ) → length (dyck_words n) ≡ catalan_of n
unfolding dyck_words
counted n = length-map (trees n) word ∙ trees-counted n

-- "2n bytes"
pub long : (n : ℕ) (x : Bytes) → is_dyck_word n x ≡ true → length x ≡ 2 * n
long n x o = let d = dyck_cases n x o in rw (← d.spelled, word-length, d.sized)

-- an object is the word of a tree
pub spelled : (n : ℕ) (x : Bytes) → is_dyck_word n x ≡ true → (t : Tree) × (x ≡ word t)
spelled n x o = (parse x, sym (dyck_cases n x o).spelled)

-- and the table has room for its rows
pub short : (n : ℕ) (x : Bytes) → n ≤ branches → is_dyck_word n x ≡ true → length x ≤ longest_object
short n x h o = omega (arith, long n x o)
