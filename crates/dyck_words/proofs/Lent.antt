-- What stands in a slice after parts of it were lent: the inside and the rest of a word, which step or are written anew.
-- Assumes nothing.
use mathlib.Core.Path.{◌≡◌, sym, ◌∙◌, ap, ap₂}
use mathlib.Core.List.{[], ◌∷◌, ◌++◌, append_assoc}
use Prim.Native.Nat.{ℕ, zero, suc, ◌+◌, ◌*◌, ◌-◌, ◌≤◌, ◌<◌}
use native.Mathlib.Omega.{arith}
use lib.ListN.{length, get_or, take, drop, set, length-append, length-drop, length-set}
use lib.Seq.{take_at, drop_at, append_snoc}
use borrow.Rule.Slice.PartMut.{mid_of, put_mid, mid_len, same_len_mid}
use Rattle.basics.proofs.Lists.{lent_rest, put_rest, drop-set}
use Rattle.listings.specs.Bytes.{Bytes}
use Rattle.dyck_words.specs.Trees.{Tree, leaf, node, size, word}
use Rattle.dyck_words.specs.Inner.Reading.{Stops, RowsTold}
use Rattle.dyck_words.specs.Inner.Moves.{Parts}
use Rattle.dyck_words.proofs.Facts.{word-length, word_injective}
use Rattle.std.proofs.lemmas.List.{get_or-drop}

-- the slice with a 1 in front and a 0 at `close`, and with an inside a between them

abbrev pub bracketed : Bytes → ℕ → Bytes
bracketed x close = set (set x 0 1) close 0

abbrev pub filled : Bytes → ℕ → Bytes → Bytes
filled x close a = put_mid 1 (close - 1) (bracketed x close) a

pub inside-length : (x : Bytes) (close : ℕ) → close < length x → length (mid_of 1 (close - 1) (bracketed x close)) ≡ close - 1
inside-length x close within = mid_len 1 close (bracketed x close) (simp length-set (omega arith))

filled_is : (x a : Bytes) (close : ℕ) → 0 < close → close < length x → filled x close a ≡ (1 ∷ (a ++ (0 ∷ []))) ++ drop (suc close) x
filled_is [] a close h k = absurd (omega arith)
filled_is (c ∷ y) a zero h k = absurd (omega arith)
filled_is (c ∷ y) a (suc m) h k = let e : suc m - 1 ≡ m = omega arith in rw (e, drop-set y m 0 (omega arith), append_assoc)

-- and with a rest b behind the 0
pub record Laid (x : Bytes) (close : ℕ) (a : Bytes) : Type 0 where
  pub long : length (filled x close a) ≡ length x
  pub rest_lent : length (mid_of (close + 1) (length (filled x close a) - (close + 1)) (filled x close a)) ≡ length x - (close + 1)
  pub whole : (b : Bytes) → put_mid (close + 1) (length (filled x close a) - (close + 1)) (filled x close a) b ≡ 1 ∷ (a ++ (0 ∷ b))
  pub same-long : (b : Bytes) → length b ≡ length (mid_of (close + 1) (length (filled x close a) - (close + 1)) (filled x close a)) → length (put_mid (close + 1) (length (filled x close a) - (close + 1)) (filled x close a) b) ≡ length x

pub laid : (x a : Bytes) (close : ℕ) → 0 < close → close < length x → length a ≡ length (mid_of 1 (close - 1) (bracketed x close)) → Laid x close a
laid x a close low within same =
    let front : length (1 ∷ (a ++ (0 ∷ []))) ≡ close + 1 = simp length-append (omega (arith, inside-length x close within)) in
    let as_long : length (filled x close a) ≡ length x = same_len_mid 1 (close - 1) (bracketed x close) a same ∙ simp length-set in
    record {
      long = as_long;
      rest_lent = mid_len (close + 1) (length (filled x close a)) (filled x close a) (omega arith) ∙ ap (λ (l : ℕ). l - (close + 1)) as_long;
      whole = λ b.
          put_rest (close + 1) (filled x close a) b
          ∙ ap (λ l. take (close + 1) l ++ b) (filled_is x a close low within)
          ∙ ap (λ l. l ++ b) (take_at (1 ∷ (a ++ (0 ∷ []))) (drop (suc close) x) (close + 1) front)
          ∙ append_snoc (1 ∷ a) 0 b;
      same-long = λ b h. same_len_mid (close + 1) (length (filled x close a) - (close + 1)) (filled x close a) b h ∙ as_long;
    }

-- the rows of a part of the bytes

-- a row that ends in front of some bytes still does with a 0 and more behind them
stops_more : (b y : Bytes) → Stops b → Stops (b ++ (0 ∷ y))
stops_more [] y s = λ z. omega arith
stops_more (c ∷ b) y s = s

told_behind : {y rows : Bytes} (a : Bytes) → RowsTold (a ++ y) rows → RowsTold y (drop (length a) rows)
told_behind {y} {rows} a told = record {
  long = omega (arith, told.long, length-append a y, length-drop (length a) rows);
  tells = λ c b t e s. get_or-drop (length a) rows (length c) 0 ∙ ap (λ k. get_or rows k 0) (sym (length-append a c)) ∙ told.tells (a ++ c) b t (ap (λ z. a ++ z) e ∙ simp append_assoc) s;
}

told_front : {rows : Bytes} (x y : Bytes) → RowsTold (x ++ (0 ∷ y)) rows → RowsTold x rows
told_front {rows} x y told = record {
  long = omega (arith, told.long, length-append x (0 ∷ y));
  tells = λ a b t e s. told.tells a (b ++ (0 ∷ y)) t (ap (λ z. z ++ (0 ∷ y)) e ∙ simp append_assoc) (stops_more b y s);
}

-- the inside and the rest of a word as they are lent, and what y in their place makes of the whole

abbrev pub rest_part : Bytes → ℕ → Bytes
rest_part x len = mid_of (len + 2) (length x - (len + 2)) x

abbrev pub with_rest : Bytes → ℕ → Bytes → Bytes
with_rest x len y = put_mid (len + 2) (length x - (len + 2)) x y

abbrev pub inside_part : Bytes → ℕ → Bytes
inside_part x len = mid_of 1 (len + 1 - 1) x

abbrev pub with_inside : Bytes → ℕ → Bytes → Bytes
with_inside x len y = put_mid 1 (len + 1 - 1) x y

-- all but the rest, and the rest

rest_apart : (i r : Tree) → word (node i r) ≡ (1 ∷ (word i ++ (0 ∷ []))) ++ word r
unfolding word
rest_apart i r = rw append_assoc

front_long : (i : Tree) {len : ℕ} → len ≡ length (word i) → length (1 ∷ (word i ++ (0 ∷ []))) ≡ len + 2
front_long i e = simp length-append (omega arith)

module _ {x : Bytes} {len : ℕ} {i r : Tree} (p : Parts x len i r) where
  pub whole_long : length x ≡ len + 2 + 2 * size r
  unfolding word
  whole_long = ap length p.whole ∙ simp length-append (omega (arith, p.long, word-length r))

  pub inside-long : len ≡ 2 * size i
  inside-long = p.long ∙ word-length i

  pub only-node : (t : Tree) → x ≡ word t → node i r ≡ t
  only-node t e = word_injective (node i r) t (sym p.whole ∙ e)

  pub rest_lent : rest_part x len ≡ word r
  rest_lent =
      lent_rest (len + 2) x
      ∙ ap (drop (len + 2)) (p.whole ∙ rest_apart i r)
      ∙ drop_at (1 ∷ (word i ++ (0 ∷ []))) (word r) (len + 2) (front_long i p.long)

  pub rest_long : length (rest_part x len) ≡ 2 * size r
  rest_long = ap length rest_lent ∙ word-length r

  pub rest_put : {y : Bytes} (s : Tree) → y ≡ word s → Parts (with_rest x len y) len i s
  rest_put {y} s e = record {
    whole =
        put_rest (len + 2) x y
        ∙ ap₂ (λ (a b : Bytes). a ++ b) (ap (take (len + 2)) (p.whole ∙ rest_apart i r) ∙ take_at (1 ∷ (word i ++ (0 ∷ []))) (word r) (len + 2) (front_long i p.long)) e
        ∙ sym (rest_apart i s);
    long = p.long;
  }

  pub inside-lent : inside_part x len ≡ word i
  unfolding word
  inside-lent =
      ap (λ y. inside_part y len) p.whole
      ∙ take_at (word i) (0 ∷ word r) (len + 1 - 1) (omega (arith, p.long))

  pub inside_part_long : length (inside_part x len) ≡ len
  inside_part_long = ap length inside-lent ∙ sym p.long

  pub inside-put : {y : Bytes} (k : Tree) → y ≡ word k → length y ≡ length (inside_part x len) → Parts (with_inside x len y) len k r
  unfolding word
  inside-put {y} k e same = record {
    whole =
        ap (λ z. with_inside z len y) p.whole
        ∙ ap₂ (λ (a b : Bytes). 1 ∷ (a ++ b)) e (drop_at (word i) (0 ∷ word r) (len + 1 - 1) (omega (arith, p.long)));
    long = p.long ∙ sym (ap length inside-lent) ∙ sym same ∙ ap length e;
  }

  -- the table has the rows of both

  pub rest_told : {rows : Bytes} → RowsTold x rows → RowsTold (rest_part x len) (mid_of (len + 2) (length rows - (len + 2)) rows)
  rest_told {rows} told = rw (rest_lent, lent_rest (len + 2) rows, ← front_long i p.long) (told_behind (1 ∷ (word i ++ (0 ∷ []))) (rw (p.whole, rest_apart i r) at told))

  pub inside-told : {y rows : Bytes} → x ≡ y → RowsTold y rows → RowsTold (inside_part x len) (mid_of 1 (length rows - 1) rows)
  unfolding word
  inside-told {rows = rows} e told = rw (inside-lent, lent_rest 1 rows) (told_front (word i) (word r) (told_behind (1 ∷ []) (rw (← e, p.whole) at told)))

-- a word that isn't empty has its inside's length in the table

pub parted : {x rows : Bytes} → (t : Tree) × (x ≡ word t) → RowsTold x rows → (length x ≡ 0 → ⊥) → (i : Tree) × (r : Tree) × Parts x (get_or rows 1 0) i r
unfolding word
parted (leaf, e) told some = absurd (some (ap length e))
parted (node i r, e) told some = (i, r, record { whole = e; long = told.tells (1 ∷ []) (0 ∷ word r) i e (λ z. omega arith) })

pub row_fits : {x rows : Bytes} → (t : Tree) × (x ≡ word t) → RowsTold x rows → (length x ≡ 0 → ⊥) → get_or rows 1 0 + 2 ≤ length x
row_fits spelled told some = let (i, r, p) = parted spelled told some in omega (arith, whole_long p)
