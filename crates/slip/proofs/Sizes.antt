-- No text is longer than the buffer that `render` asks for; and a text written there is what `render` promises.
-- Assumes nothing.
use mathlib.Core.Path.{◌≡◌, refl, sym, ◌∙◌, ap}
use mathlib.Core.Bool.{Bool, true, false, cond}
use mathlib.Core.Option.{Option, none, some}
use mathlib.Core.List.{List, [], ◌∷◌, flat_map, Memᴰ}
use Prim.Native.Nat.{ℕ, zero, suc, ◌+◌, ◌*◌, ◌≤◌}
use native.Mathlib.Omega.{arith}
use lib.Dec.{ltb, eqb}
use lib.ListN.{length, take, length-append, length-take}
use Rattle.basics.specs.Limits.{longest_object}
use Rattle.listings.specs.Bytes.{Bytes}
use Rattle.listings.specs.Calls.{COUNT}
use Rattle.families.specs.declared.Family.{Family}
use Rattle.families.specs.Table.{Lent}
use Rattle.families.specs.Families.{is_object, listing, count_of}
use Rattle.families.specs.Questions.{refusal}
use Rattle.families.proofs.FamilyFacts.{listed, lawful, object-allowed, short}
use Rattle.std.specs.Prelude.{Result, Ok, IsErr}
use Rattle.slip.specs.declared.Short.{Short}
use Rattle.columns.specs.Columns.{column, justified}
use Rattle.columns.specs.Fields.{field_width}
use Rattle.grammar.specs.Grammar.{Slip, slip_of}
use Rattle.grammar.specs.Sizes.{family_width}
use Rattle.slip.specs.Sizes.{count_width, object_line_width, last_line_width, refused_width, listed_at_most, longest_body, largest}
use Rattle.slip.specs.Text.{word_end, word_more, word_many, family_columns, first_line, object_line, object_lines, last_line, body, listed_text, refused_text, said, family_text, family_of, lent_by, text_of, output}
use Rattle.columns.specs.declared.Text.{Text as Written}
use Rattle.columns.specs.Inner.Writing.{Wrote}
use Rattle.slip.specs.Rendering.{Renders}
use Rattle.columns.proofs.ColumnLaws.{length-column}
use Rattle.slip.proofs.Lines.{up_to}

bytes-long : (x : Bytes) → length (flat_map (column field_width) x) ≡ field_width * length x
unfolding flat_map
bytes-long [] = refl
bytes-long (b ∷ x) = rw (length-append, length-column field_width b, bytes-long x) (omega arith)

line-long : (r : ℕ) (x : Bytes) → length (object_line r x) ≡ object_line_width (length x)
unfolding object_line
line-long r x = rw (length-append, length-append, length-column count_width r, bytes-long x) (omega arith)

lines_long : (s m : ℕ) (l : List Bytes) → ((x : Bytes) → Memᴰ x l → length x ≤ longest_object) → length (object_lines s (take m l)) ≤ object_line_width longest_object * m
unfolding object_lines
lines_long s zero l h = omega arith
lines_long s (suc m) [] h = omega arith
lines_long s (suc m) (x ∷ l) h =
    rw (length-append, line-long s x) (omega (arith, h x (Memᴰ.head refl), lines_long (suc s) m l (λ y k. h y (Memᴰ.tail k))))

pub last-long : (more : Bool) → length (last_line (cond more word_more word_end)) ≡ last_line_width
unfolding last_line justified
last-long true = refl
last-long false = refl

up_to_long : (s m : ℕ) (l : List Bytes) → ((x : Bytes) → Memᴰ x l → length x ≤ longest_object) → length (up_to s m l) ≤ object_line_width longest_object * m + last_line_width
up_to_long s m l h = rw (length-append, last-long (ltb m (length l))) (omega (arith, lines_long s m l h))

short-objects : (f : Family) (b : Lent) (x : Bytes) → Memᴰ x (listing f b) → length x ≤ longest_object
short-objects f b x k =
    let o = (listed f b).only x k in
    omega (arith, (lawful f b).long x o, short f b (object-allowed f b x o))

body-long : (s : ℕ) (f : Family) (b : Lent) → length (body s (listing f b)) ≤ longest_body
unfolding body
body-long s f b = up_to_long s listed_at_most (listing f b) (short-objects f b)

family-long : (f : Family) → length (family_columns f) ≡ family_width
unfolding family_columns
family-long f = simp (length-append, length-column field_width f.kind, length-column field_width f.n, length-column field_width f.k)

pub first-long : (f : Family) (count : Bytes) → length (first_line f count) ≡ family_width + (length count + 1)
unfolding first_line
first-long f count = simp (length-append, family-long f)

refused_long : (q : ℕ) → length (refused_text q) ≡ refused_width
unfolding refused_text
refused_long q = simp (length-append, length-column field_width q)

listed_long : (s : ℕ) (count : Bytes) (f : Family) (b : Lent) → length count ≡ count_width → length (listed_text s count f b) ≤ largest
unfolding listed_text
listed_long s count f b e = rw (length-append, first-long f count) (omega (arith, body-long s f b))

uncounted_long : (s : ℕ) (many : Bool) (f : Family) (b : Lent) (q : ℕ) → length (cond many (listed_text s (justified count_width word_many) f b) (refused_text q)) ≤ largest
unfolding justified
uncounted_long s true f b q = listed_long s (justified count_width word_many) f b refl
uncounted_long s false f b q = omega (arith, refused_long q)

said-long : (s : ℕ) (o : Option ℕ) (f : Family) (b : Lent) → length (said s o f b) ≤ largest
unfolding said
said-long s none f b = listed_long s (column count_width (count_of f b)) f b (length-column count_width (count_of f b))
said-long s (some q) f b = uncounted_long s (eqb q 5) f b q

text_long : (s : Option Slip) → length (text_of s) ≤ largest
unfolding text_of family_text
text_long none = omega (arith, refused_long 9)
text_long (some s) = said-long s.head.start (refusal COUNT (family_of s) (lent_by s) 0 (is_object (family_of s) (lent_by s) [])) (family_of s) (lent_by s)

-- the constant is right: it serves every slip
pub output-fits : (x : Bytes) → length (output x) ≤ largest
unfolding output
output-fits x = text_long (slip_of x)

-- a text that stands at the start of the buffer
pub rendered : (input : Bytes) {d e : Written} {s : Option Slip} → largest ≤ length d.buffer.now → d.len ≡ 0 → slip_of input ≡ s → Wrote d e (text_of s) → Renders input d.buffer.now e.buffer.now (Ok e.len)
unfolding output
rendered input {d} {e} {s} h z p w =
    let q : e.len ≡ length (text_of s) = omega (arith, w.till) in
    let whole : take e.len e.buffer.now ≡ text_of s = w.bytes ∙ rw z refl in
    record {
      whole = λ k. rw p (ap {B = Result ℕ Short} Ok q, rw (← q) whole);
      short = λ k. absurd (omega arith);
    }

-- which ends within the buffer
pub ends_within : {input d e : Bytes} {r : Result ℕ Short} {n : ℕ} → Renders input d e r → largest ≤ length d → r ≡ Ok n → n ≤ length e
ends_within {input} {e = e} {n = n} w h t =
    let p = w.whole h in
    let told : ◌≡◌ {A = Result ℕ Short} (Ok n) (Ok (length (output input))) = sym t ∙ p.0 in
    let same : n ≡ length (output input) = cc in
    omega (arith, length-take (length (output input)) e, ap length p.1)
