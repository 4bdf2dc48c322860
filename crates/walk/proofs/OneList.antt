-- An object tells which lists are lent beside its family: with others the same bytes are none. A line a kind.
-- Assumes nothing.
use mathlib.Core.Path.{◌≡◌, refl, sym, ◌∙◌, ap}
use mathlib.Core.Bool.{true, ◌&&◌, false≢true}
use mathlib.Core.List.{List, [], ◌∷◌}
use Prim.Native.Nat.{ℕ, zero, suc}
use native.Mathlib.Omega.{arith}
use lib.Dec.{leb, eqb}
use lib.ListN.{length, get_or}
use borrow.Author.Tests.{eqb-true}
use Rattle.basics.specs.Limits.{places}
use Rattle.basics.specs.Sums.{total}
use Rattle.basics.proofs.Bools.{and-true}
use Rattle.listings.specs.Bytes.{Bytes}
use Rattle.listings.specs.Rows.{Row}
use Rattle.anagrams.specs.Objects.{occurrences, tallies, is_anagram}
use Rattle.families.specs.declared.Family.{Family}
use Rattle.families.specs.Table.{Lent, no_counts, anagram_row, no_row, table}
use Rattle.families.specs.Families.{row, allowed, is_object}
use Rattle.families.proofs.FamilyFacts.{fitting}
use Rattle.families.proofs.Going.{empty}

-- a word tells the counts of so many letters
pub tallied : (i : ℕ) (cs ds : List ℕ) (x : Bytes) → tallies i cs x ≡ true → tallies i ds x ≡ true → length cs ≡ length ds → cs ≡ ds
unfolding tallies
tallied i [] [] x p q e = refl
tallied i [] (d ∷ ds) x p q e = absurd (omega arith)
tallied i (c ∷ cs) [] x p q e = absurd (omega arith)
tallied i (c ∷ cs) (d ∷ ds) x p q e =
    let g = and-true (eqb (occurrences i x) c) (tallies (suc i) cs x) p in
    let h = and-true (eqb (occurrences i x) d) (tallies (suc i) ds x) q in
    rw (sym (eqb-true (occurrences i x) c g.0) ∙ eqb-true (occurrences i x) d h.0, tallied (suc i) cs ds x g.1 h.1 (omega arith))

-- what is lent is the same where each list is
same-lent : (b c : Lent) → c.counts ≡ b.counts → c ≡ b
same-lent b c e = ap (λ (l : List ℕ). record { counts = l }) e

-- of the rows of a kind with b and with c: where both fit and have an object in common, c is b
abbrev One : Lent → Lent → Row → Row → Type 0
One b c r s = (x : Bytes) → r.lists_fit ≡ true → s.lists_fit ≡ true → r.is_object x ≡ true → s.is_object x ≡ true → c ≡ b

-- where no counts are lent
without : (b c : Lent) → no_counts b ≡ true → no_counts c ≡ true → c ≡ b
unfolding no_counts
without b c p q = same-lent b c (is_empty c q ∙ sym (is_empty b p))
  where
    is_empty : (d : Lent) → eqb (length d.counts) 0 ≡ true → d.counts ≡ []
    is_empty d e = empty d.counts (omega (arith, eqb-true (length d.counts) 0 e))

-- where they are those of n letters
with_letters : (f : Family) (b c : Lent) → One b c (anagram_row f b) (anagram_row f c)
unfolding is_anagram
with_letters f b c x fits-b fits-c in_b in_c =
    same-lent b c (tallied 1 c.counts b.counts x (letters c in_c) (letters b in_b) (many c fits-c ∙ sym (many b fits-b)))
  where
    letters : (d : Lent) → (eqb (length x) (total d.counts) && tallies 1 d.counts x) ≡ true → tallies 1 d.counts x ≡ true
    letters d o = (and-true (eqb (length x) (total d.counts)) (tallies 1 d.counts x) o).1

    many : (d : Lent) → (eqb (length d.counts) f.n && leb (total d.counts) places) ≡ true → length d.counts ≡ f.n
    many d h = eqb-true (length d.counts) f.n (and-true (eqb (length d.counts) f.n) (leb (total d.counts) places) h).0

-- the rows of the table with b and with c
data Rows (b c : Lent) : List Row → List Row → Type 0 where
  none : Rows b c [] []
  more : {r s : Row} {l m : List Row} → One b c r s → Rows b c l m → Rows b c (r ∷ l) (s ∷ m)

one_in_rows : (f : Family) (b c : Lent) → Rows b c (table f b) (table f c)
unfolding no_row
one_in_rows f b c =
    more (λ x p q o. absurd (false≢true o))
    (more (λ x p q o w. without b c p q)
    (more (with_letters f b c)
    (more (λ x p q o w. without b c p q)
    (more (λ x p q o w. without b c p q)
    (more (λ x p q o w. without b c p q)
    (more (λ x p q o w. without b c p q)
    (more (λ x p q o w. without b c p q) none)))))))

one_at : {b c : Lent} {l m : List Row} → Rows b c l m → (i : ℕ) → One b c (get_or l i (no_row b)) (get_or m i (no_row c))
unfolding no_row
one_at none i = λ x p q o w. absurd (false≢true o)
one_at (more e t) zero = e
one_at (more e t) (suc i) = one_at t i

-- bytes that are an object with b and with c: c is b
pub one_list : (f : Family) (b c : Lent) (x : Bytes) → is_object f b x ≡ true → is_object f c x ≡ true → c ≡ b
unfolding is_object row
one_list f b c x o w =
    let p = and-true (allowed f b) ((row f b).is_object x) o in
    let q = and-true (allowed f c) ((row f c).is_object x) w in
    one_at (one_in_rows f b c) f.kind x (fitting f b p.0) (fitting f c q.0) p.1 q.1
