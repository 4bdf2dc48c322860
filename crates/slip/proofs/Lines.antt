-- The lines of a listing, one more at a time, to END or MORE, for any number of lines at most.
-- Assumes nothing.
use mathlib.Core.Path.{◌≡◌, ap, subst}
use mathlib.Core.Option.{Option, none, some, some-injective, none-ne-some}
use mathlib.Core.Bool.{cond}
use mathlib.Core.List.{List, [], ◌∷◌, ◌++◌, flat_map, append_assoc, append-nil}
use Prim.Native.Nat.{ℕ, zero, suc, ◌+◌, ◌≤◌, ◌<◌}
use native.Mathlib.Nat.{add-zero}
use native.Mathlib.Numerals.{add-one}
use native.Mathlib.Omega.{arith}
use lib.Dec.{ltb}
use lib.ListN.{length, get_or, take}
use lib.Seq.{take_all}
use borrow.Author.Tests.{lt-ltb, le-ltb}
use Rattle.listings.specs.Bytes.{Bytes}
use Rattle.listings.specs.Places.{At}
use Rattle.listings.specs.Calls.{COUNT, REFUSED, COUNTED, Said, judged, act}
use Rattle.families.specs.declared.Family.{Family}
use Rattle.families.specs.Table.{Lent}
use Rattle.families.specs.Families.{is_object, listing, count_of}
use Rattle.families.specs.Questions.{refusal}
use Rattle.families.specs.Calls.{respond}
use Rattle.columns.specs.Columns.{newline, column}
use Rattle.slip.specs.Sizes.{count_width, listed_at_most}
use Rattle.slip.specs.Text.{word_end, word_more, family_columns, first_line, object_line, object_lines, last_line, body, listed_text, said, family_text}
use Rattle.columns.specs.declared.Text.{Text}
use Rattle.columns.specs.Inner.Writing.{Wrote}
use Rattle.columns.proofs.Writes.{then}

bytes-snoc : (g : ℕ → Bytes) (x : Bytes) (i : ℕ) → i < length x → flat_map g (take (suc i) x) ≡ flat_map g (take i x) ++ g (get_or x i 0)
unfolding flat_map
bytes-snoc g [] i h = absurd (omega arith)
bytes-snoc g (b ∷ x) zero h = append-nil (g b)
bytes-snoc g (b ∷ x) (suc i) h = rw (bytes-snoc g x i (omega arith), append_assoc)

-- one byte more
pub bytes_more : (g : ℕ → Bytes) (x : Bytes) (i : ℕ) → i < length x → flat_map g (take (i + 1) x) ≡ flat_map g (take i x) ++ g (get_or x i 0)
bytes_more g x i h = rw add-one (bytes-snoc g x i h)

lines_snoc : (s : ℕ) (l : List Bytes) (r : ℕ) {x : Bytes} → At l x r → object_lines s (take (suc r) l) ≡ object_lines s (take r l) ++ object_line (s + r) x
unfolding object_lines
lines_snoc s [] r {x} h = absurd (none-ne-some x h)
lines_snoc s (y ∷ l) zero {x} h = rw (add-zero, some-injective y x h) (append-nil (object_line s x))
lines_snoc s (y ∷ l) (suc r) {x} h =
    let e : s + suc r ≡ suc s + r = omega arith in
    rw (lines_snoc (suc s) l r h, append_assoc, e)

-- one line more
pub line_written : (s : ℕ) (l : List Bytes) (r : ℕ) {d e g : Text} {x : Bytes} → Wrote d e (object_lines s (take r l)) → At l x r → Wrote e g (object_line (s + r) x) → Wrote d g (object_lines s (take (r + 1) l))
line_written s l r v h w = rw (add-one, lines_snoc s l r h) (then v w)

-- the body with another number of lines at most
abbrev pub up_to : ℕ → ℕ → List Bytes → Bytes
up_to s m l = object_lines s (take m l) ++ last_line (cond (ltb m (length l)) word_more word_end)

-- END behind the last line
pub ended : (s : ℕ) (l : List Bytes) (r : ℕ) {d e g : Text} → Wrote d e (object_lines s (take r l)) → r ≡ length l → r ≤ listed_at_most → Wrote e g (last_line word_end) → Wrote d g (body s l)
unfolding body
ended s l r v e h w =
    rw (take_all listed_at_most l (omega arith), le-ltb listed_at_most (length l) (omega arith), ← take_all r l (omega arith)) (then v w)

-- MORE behind as many lines as are listed at most
pub cut : (s : ℕ) (l : List Bytes) (r : ℕ) {d e g : Text} → Wrote d e (object_lines s (take r l)) → r < length l → r ≡ listed_at_most → Wrote e g (last_line word_more) → Wrote d g (body s l)
unfolding body
cut s l r {d} {g = g} v h e w =
    subst (λ (m : ℕ). Wrote d g (up_to s m l)) e (rw (lt-ltb r (length l) h) (then v w))

-- END alone
pub nothing_listed : (s : ℕ) (l : List Bytes) {d g : Text} → l ≡ [] → Wrote d g (last_line word_end) → Wrote d g (body s l)
unfolding body object_lines
nothing_listed s l e w = rw e w

-- the first line, and what stands behind it
pub headed : (s : ℕ) (f : Family) (b : Lent) {count : Bytes} {d e g p q : Text} → Wrote d e (family_columns f) → Wrote e g count → Wrote g p (newline ∷ []) → Wrote p q (body s (listing f b)) → Wrote d q (listed_text s count f b)
unfolding listed_text first_line
headed s f b u v w y = simp append_assoc (simp append_assoc at (then (then (then u v) w) y))

said-counted : (s : ℕ) (o : Option ℕ) (f : Family) (b : Lent) {n : ℕ} → ◌≡◌ {A = Said} (COUNTED n, []) (judged o [] (COUNTED (count_of f b), [])) → said s o f b ≡ listed_text s (column count_width n) f b
unfolding said judged
said-counted s none f b e = let a = ap (λ (r : Said). r.0) e in cc
said-counted s (some q) f b e = let a = ap (λ (r : Said). r.0) e in let z : ◌≡◌ {A = ℕ} 0 1 = cc in absurd (omega arith)

said_refused : (s : ℕ) (o : Option ℕ) (f : Family) (b : Lent) {q : ℕ} → ◌≡◌ {A = Said} (REFUSED q, []) (judged o [] (COUNTED (count_of f b), [])) → said s o f b ≡ said s (some q) f b
unfolding judged
said_refused s none f b e = let a = ap (λ (r : Said). r.0) e in let z : ◌≡◌ {A = ℕ} 0 1 = cc in absurd (omega arith)
said_refused s (some p) f b e = let a = ap (λ (r : Said). r.0) e in cc

-- the text of a family that COUNT counts
pub text_counted : (s : ℕ) (f : Family) (b : Lent) {n : ℕ} → ◌≡◌ {A = Said} (COUNTED n, []) (respond COUNT f b []) → family_text s f b ≡ listed_text s (column count_width n) f b
unfolding family_text respond act count_of
text_counted s f b e = said-counted s (refusal COUNT f b 0 (is_object f b [])) f b e

-- and of one that it refuses
pub text_refused : (s : ℕ) (f : Family) (b : Lent) {q : ℕ} → ◌≡◌ {A = Said} (REFUSED q, []) (respond COUNT f b []) → family_text s f b ≡ said s (some q) f b
unfolding family_text respond act count_of
text_refused s f b e = said_refused s (refusal COUNT f b 0 (is_object f b [])) f b e
