-- What a call knows when it hands a family to its kind: the family's listing, order, objects and count as the kind's row says them.
-- Assumes nothing.
use mathlib.Core.Path.{◌≡◌, refl, sym, ◌∙◌, ap, subst}
use mathlib.Core.Bool.{Bool, true, not, ◌&&◌, ◌||◌}
use mathlib.Core.Logic.{⊎_elim}
use Prim.Native.Nat.{ℕ, zero, suc, ◌*◌, ◌≤◌, ◌<◌}
use native.Mathlib.Nat.{zero-mul, suc-mul}
use native.Mathlib.Omega.{arith}
use lib.Dec.{leb, ltb, eqb}
use lib.ListN.{length, get_or}
use borrow.Author.Tests.{leb-true, ltb-true, eqb-true, eqb-false, ne_eqb, not-true, lt-ltb, lt-leb}
use Rattle.basics.specs.Limits.{places, longest_object}
use Rattle.basics.specs.Sums.{total}
use Rattle.basics.proofs.Bools.{and-true, or_cases}
use Rattle.listings.specs.Bytes.{Bytes}
use Rattle.listings.specs.Rows.{Row}
use Rattle.families.specs.declared.Family.{Family}
use Rattle.families.specs.declared.admitted.Admitted.{Admitted}
use Rattle.families.specs.declared.kind.Kind.{Kind}
use Rattle.families.specs.Table.{Lent, no_row, table, last_kind}
use Rattle.families.specs.Families.{row, is_kind, in_table, allowed, object_length, is_object, comes_before, listing, count_of}
use Rattle.families.specs.Inner.Admissions.{lists_of}
use Rattle.families.specs.Inner.Bounds.{most_n, most_k}
use Rattle.families.specs.Inner.Kinds.{kind_number}
use Rattle.families.proofs.FamilyFacts.{lawful, bounded, fitting, count_is, has_object_lem, short}

-- the family's facts as a row says them
pub record Handed (f : Family) (b : Lent) (r : Row) : Type 0 where
  pub bounds : r.in_bounds ≡ true
  pub fits : r.lists_fit ≡ true
  pub short : r.object_length ≤ longest_object
  pub long : object_length f b ≡ r.object_length
  pub lists : listing f b ≡ r.listing
  pub orders : comes_before f b ≡ r.comes_before
  pub objects : (x : Bytes) → is_object f b x ≡ r.is_object x
  pub counted : count_of f b ≡ r.number
  pub some : 0 < count_of f b → r.has_object ≡ true

by_row : (f : Family) (b : Lent) → allowed f b ≡ true → Handed f b (row f b)
unfolding object_length listing comes_before is_object
by_row f b a =
    record {
      bounds = bounded f b a;
      fits = fitting f b a;
      short = short f b a;
      long = refl;
      lists = rw a;
      orders = refl;
      objects = λ x. rw a;
      counted = count_is f b a;
      some = λ h. sym (has_object_lem f b a) ∙ lt-ltb 0 (count_of f b) h;
    }

-- the row of a kind for the family g
abbrev pub row_at : ℕ → Family → Lent → Row
row_at kind g b = get_or (table g b) kind (no_row b)

-- a family that the table allows, handed to the kind that its number names
pub handed : (kind : ℕ) (f : Family) (b : Lent) → f.kind ≡ kind → allowed f b ≡ true → Handed f b (row_at kind f b)
unfolding row
handed kind f b e a = subst (λ (κ : ℕ). Handed f b (row_at κ f b)) e (by_row f b a)

-- a kind's functions read n or k off an object whose length it is

abbrev pub with_sizes : Family → ℕ → ℕ → Family
with_sizes f n k = record { kind = f.kind; n = n; k = k; floor = f.floor; edition = f.edition }

abbrev pub with_n : Family → ℕ → Family
with_n f n = with_sizes f n f.k

abbrev pub with_k : Family → ℕ → Family
with_k f k = with_sizes f f.n k

module _ (kind : ℕ) (f : Family) (b : Lent) (x : Bytes) (e : f.kind ≡ kind) where
  -- bytes of the object's length

  pub long_n : allowed f b ≡ true → length x ≡ object_length f b → (row_at kind f b).object_length ≡ f.n → Handed f b (row_at kind (with_n f (length x)) b)
  long_n a h is-n =
      let t = handed kind f b e a in
      subst (λ (n : ℕ). Handed f b (row_at kind (with_n f n) b)) (sym (h ∙ t.long ∙ is-n)) t

  pub long_k : allowed f b ≡ true → length x ≡ object_length f b → (row_at kind f b).object_length ≡ f.k → Handed f b (row_at kind (with_k f (length x)) b)
  long_k a h is-k =
      let t = handed kind f b e a in
      subst (λ (k : ℕ). Handed f b (row_at kind (with_k f k) b)) (sym (h ∙ t.long ∙ is-k)) t

-- what the columns say in plain facts

-- the first of two bounds
pub n_within : (n limit : ℕ) (t : Bool) → (leb n limit && t) ≡ true → n ≤ limit
n_within n limit t e = leb-true n limit (and-true (leb n limit) t e).0

-- the bounds of every row are two limits, by the kind's number

zero_most : (k : ℕ) → eqb k 0 ≡ leb k 0
zero_most zero = refl
zero_most (suc k) = rw (ne_eqb (suc k) 0 (λ e. omega arith), lt-leb (suc k) 0 (omega arith))

bounds_at : (kind : ℕ) (f : Family) (b : Lent) → 1 ≤ kind → kind ≤ last_kind → (row_at kind f b).in_bounds ≡ (leb f.n (most_n kind) && leb f.k (most_k kind))
bounds_at zero f b low high = absurd (omega arith)
bounds_at (suc zero) f b low high = refl
bounds_at (suc (suc zero)) f b low high = rw (zero_most f.k)
bounds_at (suc (suc (suc zero))) f b low high = rw (zero_most f.k)
bounds_at (suc (suc (suc (suc zero)))) f b low high = refl
bounds_at (suc (suc (suc (suc (suc zero))))) f b low high = refl
bounds_at (suc (suc (suc (suc (suc (suc zero)))))) f b low high = rw (zero_most f.k)
bounds_at (suc (suc (suc (suc (suc (suc (suc zero))))))) f b low high = rw (zero_most f.k)
bounds_at (suc (suc (suc (suc (suc (suc (suc (suc kind)))))))) f b low high = absurd (omega arith)

pub two_limits : (f : Family) (b : Lent) → is_kind f ≡ true → in_table f b ≡ (leb f.n (most_n f.kind) && leb f.k (most_k f.kind))
unfolding is_kind in_table row
two_limits f b e =
    let p = and-true (leb 1 f.kind) (leb f.kind last_kind) e in
    bounds_at f.kind f b (leb-true 1 f.kind p.0) (leb-true f.kind last_kind p.1)

-- the letters of an anagram are as many as n says, and their counts sum to no more than the places
module _ {f : Family} {b : Lent} (t : Handed f b (row_at 2 f b)) where
  pub letters_fit : length b.counts ≤ longest_object
  letters_fit =
      let many = (and-true (eqb (length b.counts) f.n) (leb (total b.counts) places) t.fits).0 in
      omega (arith, n_within f.n places (eqb f.k 0) t.bounds, eqb-true (length b.counts) f.n many)

  pub sum_fits : leb (total b.counts) places ≡ true
  sum_fits = (and-true (eqb (length b.counts) f.n) (leb (total b.counts) places) t.fits).1

-- the objects have m at the least, and "none when k = 0 < n"
pub shared : (n m k : ℕ) → (leb m n && (ltb 0 k || eqb n 0)) ≡ true → (m ≤ n) × (k ≡ 0 → n ≡ 0)
shared n m k e =
    let p = and-true (leb m n) (ltb 0 k || eqb n 0) e in
    (leb-true m n p.0, ⊎_elim (λ w z. omega (arith, ltb-true 0 k w)) (λ w z. eqb-true n 0 w) (or_cases (ltb 0 k) (eqb n 0) p.1))

-- "n = 1 has none"
pub other_than : (n m : ℕ) → not (eqb n m) ≡ true → n ≡ m → ⊥
other_than n m e = eqb-false n m (not-true (eqb n m) e)

-- k parts of some size have a sum, unless there are none
pub some_parts : (k f : ℕ) → 1 ≤ f → ltb 0 (k * f) ≡ ltb 0 k
some_parts zero f h = rw zero-mul
some_parts (suc k) f h = rw (lt-ltb 0 (suc k * f) (omega (arith, suc-mul k f)), lt-ltb 0 (suc k) (omega arith))

-- a family of a kind's number is of a kind
pub named_kind : (f : Family) (kind : Kind) → f.kind ≡ kind_number kind → is_kind f ≡ true
unfolding is_kind
named_kind f Kind.Subsets e = rw e
named_kind f Kind.Anagrams e = rw e
named_kind f Kind.Permutations e = rw e
named_kind f Kind.SetPartitions e = rw e
named_kind f Kind.IntegerPartitions e = rw e
named_kind f Kind.DyckWords e = rw e
named_kind f Kind.Derangements e = rw e

pub kind_limits : (f : Family) (b : Lent) (kind : Kind) → f.kind ≡ kind_number kind → in_table f b ≡ (leb f.n (most_n (kind_number kind)) && leb f.k (most_k (kind_number kind)))
kind_limits f b kind e = two_limits f b (named_kind f kind e) ∙ ap (λ (number : ℕ). leb f.n (most_n number) && leb f.k (most_k number)) e

-- only anagrams are of kind 2
pub other_kind : (kind : Kind) → (kind ≡ Kind.Anagrams → ⊥) → kind_number kind ≡ 2 → ⊥
other_kind Kind.Subsets other e = omega (arith, e)
other_kind Kind.Anagrams other e = other refl
other_kind Kind.Permutations other e = omega (arith, e)
other_kind Kind.SetPartitions other e = omega (arith, e)
other_kind Kind.IntegerPartitions other e = omega (arith, e)
other_kind Kind.DyckWords other e = omega (arith, e)
other_kind Kind.Derangements other e = omega (arith, e)

-- an admitted family, handed to its kind
module _ (a : Admitted) {named kind : Kind} (known : a.family.now.kind ≡ kind_number named) (e : named ≡ kind) where
  pub number_given : a.family.now.kind ≡ kind_number kind
  number_given = known ∙ ap kind_number e

  pub given : Handed a.family.now (lists_of a) (row_at (kind_number kind) a.family.now (lists_of a))
  given = handed (kind_number kind) a.family.now (lists_of a) number_given a.passed

  -- its functions read n or k off bytes of an object's length
  module _ (x : Bytes) (long : length x ≡ object_length a.family.now (lists_of a)) where
    pub given_n : (row_at (kind_number kind) a.family.now (lists_of a)).object_length ≡ a.family.now.n → Handed a.family.now (lists_of a) (row_at (kind_number kind) (with_n a.family.now (length x)) (lists_of a))
    given_n is-n = long_n (kind_number kind) a.family.now (lists_of a) x number_given a.passed long is-n

    pub given_k : (row_at (kind_number kind) a.family.now (lists_of a)).object_length ≡ a.family.now.k → Handed a.family.now (lists_of a) (row_at (kind_number kind) (with_k a.family.now (length x)) (lists_of a))
    given_k is-k = long_k (kind_number kind) a.family.now (lists_of a) x number_given a.passed long is-k

  -- or off an object
  module _ (x : Bytes) (o : is_object a.family.now (lists_of a) x ≡ true) where
    pub object_n : (row_at (kind_number kind) a.family.now (lists_of a)).object_length ≡ a.family.now.n → Handed a.family.now (lists_of a) (row_at (kind_number kind) (with_n a.family.now (length x)) (lists_of a))
    object_n is-n = given_n x ((lawful a.family.now (lists_of a)).long x o) is-n

    pub object_k : (row_at (kind_number kind) a.family.now (lists_of a)).object_length ≡ a.family.now.k → Handed a.family.now (lists_of a) (row_at (kind_number kind) (with_k a.family.now (length x)) (lists_of a))
    object_k is-k = given_k x ((lawful a.family.now (lists_of a)).long x o) is-k
