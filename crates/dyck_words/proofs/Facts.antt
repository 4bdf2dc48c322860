-- The words of trees are the balanced words, a tree reads back from its word, and so the test of a Dyck word tells of a tree of n branches.
-- Assumes nothing.
use mathlib.Core.Path.{◌≡◌, refl, sym, ◌∙◌, ap, ap₂}
use mathlib.Core.Bool.{true, false≢true}
use mathlib.Core.List.{List, [], ◌∷◌, ◌++◌, append-nil, append_assoc}
use Prim.Native.Nat.{ℕ, zero, suc, ◌*◌}
use native.Mathlib.Omega.{arith}
use lib.Dec.{eqb}
use lib.ListN.{length, length-append, get_or}
use borrow.Author.Tests.{eqb-true, eq-eqb}
use Rattle.listings.specs.Bytes.{Bytes}
use Rattle.basics.proofs.Bools.{and-true, and_makes}
use Rattle.dyck_words.specs.Objects.{balanced_from, is_dyck_word}
use Rattle.dyck_words.specs.Trees.{Tree, leaf, node, size, word, tree_before, join, open_rows, parse, dyck_before}

-- half the length is the size
pub word-length : (t : Tree) → length (word t) ≡ 2 * size t
unfolding word size
word-length leaf = refl
word-length (node i r) = simp length-append (omega (arith, word-length i, word-length r))

-- the words of trees are balanced

balanced_past : (t : Tree) (h : ℕ) (x : Bytes) → balanced_from h (word t ++ x) ≡ balanced_from h x
unfolding balanced_from word
balanced_past leaf h x = refl
balanced_past (node i r) h x = rw append_assoc (balanced_past i (suc h) (0 ∷ (word r ++ x)) ∙ balanced_past r h x)

pub balanced_word : (t : Tree) → balanced_from 0 (word t) ≡ true
unfolding balanced_from
balanced_word t = rw append-nil at (balanced_past t 0 [])

-- and all balanced words are such

-- h 0s with the words of h + 1 trees between them: what remains of a balanced word at the height h
data Rows : ℕ → Bytes → Type 0 where
  final : (t : Tree) → Rows 0 (word t)
  then : {h : ℕ} {x : Bytes} (t : Tree) → Rows h x → Rows (suc h) (word t ++ (0 ∷ x))

-- a 1 in front joins the first two trees
close : {h : ℕ} {x : Bytes} → Rows (suc h) x → Rows h (1 ∷ x)
unfolding word
close (then t (final u)) = final (node t u)
close (then t (then u r)) = rw append_assoc at (then (node t u) r)

rows : (h : ℕ) (x : Bytes) → balanced_from h x ≡ true → Rows h x
unfolding balanced_from word
rows h [] e = rw (eqb-true h 0 e) (final leaf)
rows zero (zero ∷ x) e = absurd (false≢true e)
rows (suc h) (zero ∷ x) e = then leaf (rows h x e)
rows h (suc zero ∷ x) e = close (rows (suc h) x e)
rows h (suc (suc b) ∷ x) e = absurd (false≢true e)

only_row : {x : Bytes} → Rows 0 x → (t : Tree) × (x ≡ word t)
only_row (final t) = (t, refl)

-- a tree reads back from its word

open_past : (t : Tree) (x : Bytes) (ts : List Tree) → open_rows x ≡ leaf ∷ ts → open_rows (word t ++ x) ≡ t ∷ ts
unfolding open_rows word join
open_past leaf x ts e = e
open_past (node i r) x ts e = ap join (ap open_rows (append_assoc (word i) (0 ∷ word r) x) ∙ open_past i (0 ∷ (word r ++ x)) (r ∷ ts) (rw (open_past r x ts e)))

pub parse-word : (t : Tree) → parse (word t) ≡ t
unfolding parse open_rows
parse-word t = ap (λ (l : List Tree). get_or l 0 leaf) (rw append-nil at (open_past t [] [] refl))

pub word_injective : (t u : Tree) → word t ≡ word u → t ≡ u
word_injective t u e = sym (parse-word t) ∙ ap parse e ∙ parse-word u

pub word-order : (t u : Tree) → dyck_before (word t) (word u) ≡ tree_before t u
unfolding dyck_before
word-order t u = ap₂ tree_before (parse-word t) (parse-word u)

-- what the test tells, and what makes it pass

pub record IsDyck (n : ℕ) (x : Bytes) : Type 0 where
  pub sized : size (parse x) ≡ n
  pub spelled : word (parse x) ≡ x

pub dyck_cases : (n : ℕ) (x : Bytes) → is_dyck_word n x ≡ true → IsDyck n x
unfolding is_dyck_word
dyck_cases n x e =
    let (long, balanced) = and-true (eqb (length x) (2 * n)) (balanced_from 0 x) e in
    let (t, q) = only_row (rows 0 x balanced) in
    let p : parse x ≡ t = ap parse q ∙ parse-word t in
    record { sized = rw p (omega (arith, word-length t, ap length q, eqb-true (length x) (2 * n) long)); spelled = rw p (sym q) }

pub dyck_makes : {n : ℕ} (t : Tree) → size t ≡ n → is_dyck_word n (word t) ≡ true
unfolding is_dyck_word
dyck_makes {n} t sized = and_makes (eq-eqb (length (word t)) (2 * n) (omega (arith, word-length t))) (balanced_word t)
