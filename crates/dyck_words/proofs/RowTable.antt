-- The table of the row lengths is filled from the right: a row is known by the rows behind it.
-- Assumes nothing.
use mathlib.Core.Path.{◌≡◌, sym, ◌∙◌, ap}
use mathlib.Core.Logic.{⊎_elim}
use mathlib.Core.List.{[], ◌∷◌, ◌++◌, append_assoc}
use Prim.Native.Nat.{ℕ, suc, ◌+◌, ◌-◌, ◌≤◌, ◌<◌}
use native.Mathlib.Omega.{arith}
use lib.Dec.{eqb, leb, ltb}
use lib.ListN.{length, get_or, set, take, drop, replicate, length-append, length-drop, length-set, length-take, length-replicate, drop_of_length-le}
use lib.Seq.{get_or-set_same, get_or-set_other, drop-cons}
use borrow.Author.Tests.{eqb-true, eqb-false, leb-true, leb-false, ltb-true, ltb-false}
use Rattle.std.proofs.lemmas.List.{get_or_past, get_or-take, get_or-drop, get_or-replicate, drop-set}
use Rattle.basics.specs.Limits.{longest_object}
use Rattle.basics.proofs.Bools.{true_or_false}
use Rattle.listings.specs.Bytes.{Bytes}
use Rattle.dyck_words.specs.Trees.{Tree, leaf, node, word}
use Rattle.dyck_words.specs.Inner.Reading.{RowHere, Stops, RowsTold, Told}

-- where the bytes end the row is empty
told_end : {rows : Bytes} → 0 < length rows → get_or rows 0 0 ≡ 0 → RowsTold [] rows
told_end {rows} some zero = record {
  long = some;
  tells = λ a b t e s.
      let parts = ap length e ∙ length-append a (word t ++ b) in
      let none : length a ≡ 0 = omega arith in
      rw none (omega (arith, length-append (word t) b));
}

-- a byte c in front of bytes y whose rows are known
module _ {c l : ℕ} {y rows : Bytes} (told : RowsTold y rows) (here : RowHere c (take (length y + 1) rows) l) where
  behind : (k : ℕ) → k ≤ length y → get_or (take (length y + 1) rows) k 0 ≡ get_or rows k 0
  behind k h = get_or-take (length y + 1) rows k 0 (omega arith)

  row-long : (b : Bytes) (t : Tree) → c ∷ y ≡ word t ++ b → Stops b → l ≡ length (word t)
  unfolding word
  row-long b leaf e s = here.none (λ one. s (ap (λ z. get_or z 0 0) (sym e) ∙ one))
  row-long b (node i r) e s =
      let parts : y ≡ word i ++ (0 ∷ (word r ++ b)) = ap (drop 1) e ∙ append_assoc (word i) (0 ∷ word r) b in
      let whole = ap length parts ∙ length-append (word i) (0 ∷ (word r ++ b)) in
      let inside : get_or (take (length y + 1) rows) 0 0 ≡ length (word i) = behind 0 (omega arith) ∙ told.tells [] (0 ∷ (word r ++ b)) i parts (λ z. omega arith) in
      let front = length-append (word i) (0 ∷ []) in
      let close : get_or (take (length y + 1) rows) 0 0 + 1 ≡ length (word i ++ (0 ∷ [])) = omega arith in
      let rest : get_or (take (length y + 1) rows) (get_or (take (length y + 1) rows) 0 0 + 1) 0 ≡ length (word r) =
      rw close (behind (length (word i ++ (0 ∷ []))) (omega arith) ∙ told.tells (word i ++ (0 ∷ [])) b r (parts ∙ simp append_assoc) s) in
      omega (arith, here.some (ap (λ z. get_or z 0 0) e) (omega (arith, length-take (length y + 1) rows, told.long)), length-append (word i) (0 ∷ word r))

  tells_more : (a b : Bytes) (t : Tree) → c ∷ y ≡ a ++ (word t ++ b) → Stops b → get_or (l ∷ rows) (length a) 0 ≡ length (word t)
  tells_more [] b t e s = row-long b t e s
  tells_more (_ ∷ a) b t e s = told.tells a b t (ap (drop 1) e) s

  told-cons : RowsTold (c ∷ y) (l ∷ rows)
  told-cons = record { long = omega (arith, told.long); tells = tells_more }

-- the rows of x from the place `at` on are in the table
pub record Built (x rows : Bytes) (at : ℕ) : Type 0 where
  pub within : at ≤ length x
  pub short : length x ≤ longest_object
  pub full : length rows ≡ longest_object + 1
  pub low : (k : ℕ) → at ≤ k → k ≤ length x → k + get_or rows k 0 ≤ length x
  pub told : RowsTold (drop at x) (drop at rows)

pub built_none : (x : Bytes) → length x ≤ longest_object → Built x (replicate (longest_object + 1) 0) (length x)
built_none x short = record {
  within = omega arith;
  short = short;
  full = length-replicate {A = ℕ} (longest_object + 1) 0;
  low = λ k h m. omega (arith, get_or-replicate {A = ℕ} (longest_object + 1) k 0 0 (omega arith));
  told = rw (drop_of_length-le x {i = length x} (omega arith)) (told_end
      (omega (arith, length-drop (length x) (replicate {A = ℕ} (longest_object + 1) 0), length-replicate {A = ℕ} (longest_object + 1) 0))
      (get_or-drop (length x) (replicate {A = ℕ} (longest_object + 1) 0) 0 0 ∙ get_or-replicate {A = ℕ} (longest_object + 1) (length x + 0) 0 0 (omega arith)));
}

built_at : {x rows : Bytes} {p l : ℕ} → Built x rows (p + 1) → RowHere (get_or x p 0) (take (length x + 1 - (p + 1)) (drop (p + 1) rows)) l → Built x (set rows p l) p
built_at {x} {rows} {p} {l} built here =
    let count : length x + 1 - (p + 1) ≡ length (drop (p + 1) x) + 1 = omega (arith, length-drop (p + 1) x, built.within) in
    let next : suc p ≡ p + 1 = omega arith in
    record {
      within = omega (arith, built.within);
      short = built.short;
      full = length-set rows p l ∙ built.full;
      low = λ k h m. ⊎_elim
          (λ e. let k-is = eqb-true k p e in rw (k-is, get_or-set_same rows p l 0 (omega (arith, built.within, built.short, built.full))) (omega (arith, here.low, length-take (length x + 1 - (p + 1)) (drop (p + 1) rows), built.within)))
          (λ e. omega (arith, get_or-set_other rows p k l 0 (eqb-false k p e), eqb-false k p e, built.low k (omega (arith, eqb-false k p e)) m))
          (true_or_false (eqb k p));
      told = rw (drop-cons x p 0 (omega (arith, built.within)), next, drop-set rows p l (omega (arith, built.within, built.short, built.full)))
          (told-cons built.told (rw count at here));
    }

pub built_more : {x rows : Bytes} {at l : ℕ} → 0 < at → Built x rows at → RowHere (get_or x (at - 1) 0) (take (length x + 1 - (at - 1 + 1)) (drop (at - 1 + 1) rows)) l → Built x (set rows (at - 1) l) (at - 1)
built_more {x} {rows} {at} some built here = let e : at ≡ at - 1 + 1 = omega arith in built_at (rw e at built) here

-- the rows of n bytes turned round, from the place to the bytes left there: those where less than `left` are left are in the table
pub record Turned (n : ℕ) (rows table : Bytes) (left : ℕ) : Type 0 where
  pub full : length table ≡ longest_object + 1
  pub done : (k : ℕ) → k < left → get_or table k 0 ≡ get_or rows (n - k) 0
  pub rest : (k : ℕ) → left ≤ k → get_or table k 0 ≡ 0

pub turned_none : (n : ℕ) (rows : Bytes) → Turned n rows (replicate (longest_object + 1) 0) 0
turned_none n rows = record {
  full = length-replicate {A = ℕ} (longest_object + 1) 0;
  done = λ k h. omega arith;
  rest = λ k h. ⊎_elim
      (λ e. get_or-replicate {A = ℕ} (longest_object + 1) k 0 0 (ltb-true k (longest_object + 1) e))
      (λ e. get_or_past (replicate {A = ℕ} (longest_object + 1) 0) k 0 (omega (arith, length-replicate {A = ℕ} (longest_object + 1) 0, ltb-false k (longest_object + 1) e)))
      (true_or_false (ltb k (longest_object + 1)));
}

pub turned_more : {n left : ℕ} {rows table : Bytes} → left ≤ n → n ≤ longest_object → Turned n rows table left → Turned n rows (set table left (get_or rows (n - left) 0)) (left + 1)
turned_more {n} {left} {rows} {table} within short turned =
    let room : left < length table = omega (arith, turned.full) in
    record {
      full = length-set table left (get_or rows (n - left) 0) ∙ turned.full;
      done = λ k h. ⊎_elim
          (λ e. rw (eqb-true k left e) (get_or-set_same table left (get_or rows (n - left) 0) 0 room))
          (λ e. get_or-set_other table left k (get_or rows (n - left) 0) 0 (eqb-false k left e) ∙ turned.done k (omega (arith, eqb-false k left e)))
          (true_or_false (eqb k left));
      rest = λ k h. get_or-set_other table left k (get_or rows (n - left) 0) 0 (omega arith) ∙ turned.rest k (omega arith);
    }

pub turned_all : {x rows table : Bytes} {left : ℕ} → RowsTold x rows → ((k : ℕ) → k ≤ length x → k + get_or rows k 0 ≤ length x) → Turned (length x) rows table left
    → left ≡ length x + 1 → Told x (length x) table
turned_all {x} {rows} {table} told low turned end = record {
  low = λ k. ⊎_elim
      (λ e. let h = leb-true k (length x) e in omega (arith, turned.done k (omega arith), low (length x - k) (omega arith)))
      (λ e. omega (arith, turned.rest k (omega (arith, leb-false k (length x) e))))
      (true_or_false (leb k (length x)));
  tells = λ a b t e s.
      let whole = ap length e ∙ length-append a (word t ++ b) in
      let back : length x - (length x - length a) ≡ length a = omega arith in
      turned.done (length x - length a) (omega arith) ∙ ap (λ k. get_or rows k 0) back ∙ told.tells a b t e s;
}

-- the inside of a word is the row behind its first byte
pub told-inside : (i r : Tree) {x : Bytes} {left : ℕ} {rows : Bytes} → Told x left rows → x ≡ word (node i r) → get_or rows (left - 1) 0 ≡ length (word i)
unfolding word
told-inside i r told e = told.tells (1 ∷ []) (0 ∷ word r) i e (λ z. omega arith)
