-- The families at the edges of paper 01's table: those whose one object is the empty string, and those within the table that have none.
-- Assumes nothing.
use mathlib.Core.Path.{◌≡◌, refl, sym, ◌∙◌, ap}
use mathlib.Core.Bool.{Bool, true, false}
use mathlib.Core.Logic.{⊎_elim}
use mathlib.Core.List.Memᴰ
use mathlib.Core.List.{List, [], ◌∷◌}
use Prim.Native.Nat.{ℕ, ◌*◌, ◌≤◌, ◌<◌}
use native.Mathlib.Nat.{zero-mul, mul-one, mul-le-mul_left}
use native.Mathlib.Omega.{arith}
use lib.Dec.{leb, eqb}
use lib.ListN.{length}
use borrow.Author.Tests.{ltb-true, ltb-false, eqb-true, le-leb, lt-leb, ne_eqb}
use Rattle.basics.specs.Limits.{places}
use Rattle.basics.specs.Sums.{total}
use Rattle.basics.proofs.Bools.{and-true, true_or_false}
use Rattle.listings.specs.Bytes.{Bytes}
use Rattle.listings.specs.Listings.{Listing, Ascending, more}
use Rattle.families.specs.declared.Family.{Family}
use Rattle.families.specs.Table.{Lent}
use Rattle.families.specs.Families.{row, lists_fit, allowed, object_length, listing, count_of}
use Rattle.families.proofs.RowsHold.{with_counts_lem}
use Rattle.families.proofs.FamilyFacts.{listed, lawful, not-allowed, has_object_lem, fitting, floor_positive}
use Rattle.families.proofs.Going.{empty}

-- "With n = 0 kinds 2, 3 and 6 have one object, the empty string. So have kind 1 with k = 0 and kinds 4 and 5 with n = k = 0." And of kind 7 "the empty
-- string is the one object for n = 0"
pub data EmptyAlone (f : Family) : Type 0 where
  subsets : f.kind ≡ 1 → f.k ≡ 0 → EmptyAlone f
  anagrams : f.kind ≡ 2 → f.n ≡ 0 → EmptyAlone f
  permutations : f.kind ≡ 3 → f.n ≡ 0 → EmptyAlone f
  set_partitions_lem : f.kind ≡ 4 → f.n ≡ 0 → f.k ≡ 0 → EmptyAlone f
  integer_partitions_lem : f.kind ≡ 5 → f.n ≡ 0 → f.k ≡ 0 → EmptyAlone f
  dyck_words_lem : f.kind ≡ 6 → f.n ≡ 0 → EmptyAlone f
  derangements : f.kind ≡ 7 → f.n ≡ 0 → EmptyAlone f

-- "Kinds 1, 4 and 5 have no object when k > n; kinds 4 and 5 have none when k = 0 < n." Nor has kind 5 when k times the floor is beyond n,
-- nor kind 7 with n = 1.
pub data NoObject (f : Family) : Type 0 where
  subsets : f.kind ≡ 1 → f.n < f.k → NoObject f
  set_partitions_lem : f.kind ≡ 4 → f.n < f.k → NoObject f
  integer_partitions_lem : f.kind ≡ 5 → f.n < f.k → NoObject f
  set_partitions-none : f.kind ≡ 4 → f.k ≡ 0 → 0 < f.n → NoObject f
  integer_partitions-none : f.kind ≡ 5 → f.k ≡ 0 → 0 < f.n → NoObject f
  integer_partitions_floor : f.kind ≡ 5 → f.n < f.k * f.floor → NoObject f
  derangements : f.kind ≡ 7 → f.n ≡ 1 → NoObject f

-- what the row says of them

-- so long are their objects, and this says whether there is one
record Row_says (f : Family) (b : Lent) (long : ℕ) (some : Bool) : Type 0 where
  size : (row f b).object_length ≡ long
  has : (row f b).has_object ≡ some

none_left : (cs : List ℕ) → length cs ≡ 0 → total cs ≡ 0
unfolding total
none_left [] e = refl
none_left (c ∷ cs) e = absurd (omega arith)

said_empty : (f : Family) (b : Lent) → lists_fit f b ≡ true → EmptyAlone f → Row_says f b 0 true
unfolding row
said_empty f b fits (subsets e k) = record { size = rw (e, k); has = rw (e, k) (le-leb 0 f.n (omega arith)) }
said_empty f b fits (anagrams e n) =
    let counts = (and-true (eqb (length b.counts) f.n) (leb (total b.counts) places) (sym (with_counts_lem f b e) ∙ fits)).0 in
    record { size = rw e (none_left b.counts (eqb-true (length b.counts) f.n counts ∙ n)); has = rw e }
said_empty f b fits (permutations e n) = record { size = rw (e, n); has = rw e }
said_empty f b fits (set_partitions_lem e n k) = record { size = rw (e, n); has = rw (e, n, k) }
said_empty f b fits (integer_partitions_lem e n k) = record { size = rw (e, k); has = rw (e, n, k, zero-mul f.floor) }
said_empty f b fits (dyck_words_lem e n) = record { size = rw (e, n); has = rw e }
said_empty f b fits (derangements e n) = record { size = rw (e, n); has = rw (e, n) }

-- of strings without a byte there is one

alone : {object : Bytes → Bool} {lt : Bytes → Bytes → Bool} (l : List Bytes) → Listing object lt l → ((x : Bytes) → object x ≡ true → x ≡ []) → 0 < length l → l ≡ [] ∷ []
alone [] lists empty h = absurd (omega arith)
alone (x ∷ []) lists empty h = ap (λ (z : Bytes). z ∷ []) (empty x (lists.only x (Memᴰ.head refl)))
alone {object} {lt} (x ∷ y ∷ l) lists empty h =
    let o = lists.only x (Memᴰ.head refl) in
    let e : y ≡ x = empty y (lists.only y (Memᴰ.tail (Memᴰ.head refl))) ∙ sym (empty x o) in
    absurd (lists.order.irreflexive x o (rw e at (first-before lists.ascending)))
  where
    first-before : Ascending lt (x ∷ y ∷ l) → lt x y ≡ true
    first-before (more before rest) = before y (Memᴰ.head refl)

-- the listing is the empty string alone
pub empty_alone : (f : Family) (b : Lent) → allowed f b ≡ true → EmptyAlone f → listing f b ≡ [] ∷ []
unfolding object_length count_of lists_fit
empty_alone f b a e =
    let says = said_empty f b (fitting f b a) e in
    alone (listing f b) (listed f b) (λ x o. empty x (omega (arith, (lawful f b).long x o ∙ says.size))) (ltb-true 0 (count_of f b) (has_object_lem f b a ∙ says.has))

-- and a family that the paper says has none has none
said-none : (f : Family) (b : Lent) → allowed f b ≡ true → NoObject f → (row f b).has_object ≡ false
unfolding row
said-none f b a (subsets e h) = rw e (lt-leb f.k f.n h)
said-none f b a (set_partitions_lem e h) = rw (e, lt-leb f.k f.n h)
said-none f b a (integer_partitions_lem e h) =
    let whole : f.k * 1 ≤ f.k * f.floor = mul-le-mul_left f.k (floor_positive f b a e) in
    rw (e, lt-leb (f.k * f.floor) f.n (omega (arith, mul-one f.k)))
said-none f b a (set_partitions-none e k h) = rw (e, k, le-leb 0 f.n (omega arith), ne_eqb f.n 0 (λ n. omega arith))
said-none f b a (integer_partitions-none e k h) = rw (e, k, zero-mul f.floor, le-leb 0 f.n (omega arith), ne_eqb f.n 0 (λ n. omega arith))
said-none f b a (integer_partitions_floor e h) = rw (e, lt-leb (f.k * f.floor) f.n h)
said-none f b a (derangements e h) = rw (e, h)

pub none_at_all : (f : Family) (b : Lent) → NoObject f → listing f b ≡ []
unfolding count_of
none_at_all f b none =
    ⊎_elim
    (λ a. empty (listing f b) (ltb-false 0 (count_of f b) (has_object_lem f b a ∙ said-none f b a none)))
    (λ a. not-allowed f b a)
    (true_or_false (allowed f b))
