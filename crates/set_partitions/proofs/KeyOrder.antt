-- The order of the keys, and all that depends on it, over the edition: which keys there are and where they stand, how many partitions have an earlier
-- key, which of two partitions comes first, which keys can move and where to. Assumes nothing.
use mathlib.Core.Path.{◌≡◌, refl, sym, ◌∙◌, ap, subst}
use mathlib.Core.Logic.{◌⊎◌, inl, inr, ⊎_elim}
use mathlib.Core.Bool.{Bool, true, false, not, cond, ◌&&◌, ◌||◌, false≢true, and-false, and-true as and-with-true}
use mathlib.Core.List.Memᴰ
use mathlib.Core.List.{[], ◌∷◌, ◌++◌, Memᴰ}
use Prim.Native.Nat.{ℕ, zero, suc, ◌+◌, ◌-◌, ◌*◌, ◌/◌, ◌%◌, ◌≤◌, ◌<◌, max}
use native.Mathlib.Nat.{zero-add, suc-add, zero-mul, suc-mul, mul-zero, mul-le-mul, le_refl, div-add-mod', mod-lt}
use native.Mathlib.Numerals.{add-one}
use native.Mathlib.Decide.{dec_lt}
use native.Mathlib.Omega.{arith}
use lib.Dec.{leb, ltb, eqb}
use lib.ListN.{take}
use lib.Seq.{take_at, take-take}
use borrow.Author.Tests.{lt-ltb, le-ltb, le-leb, lt-leb, eq-eqb, ne_eqb, eqb-true, ltb-true, ltb-false, leb-true, leb-false}
use Rattle.basics.specs.Sums.{range, sum_over}
use Rattle.basics.proofs.Bools.{and-true, and_makes, and_fails, or_cases, or_left, or_right, true_or_false}
use Rattle.basics.proofs.Ranges.{length-range, take_range, sum_over-append, between}
use Rattle.numbers.specs.Numbers.{stirling_of}
use Rattle.numbers.proofs.Stirlings.{stirling_none, stirling_zero}
use Rattle.listings.specs.Bytes.{Bytes}
use Rattle.listings.specs.Directions.{Beside, after, before}
use Rattle.listings.specs.Listings.{Ascending, none, more, StrictTotal}
use Rattle.listings.specs.Places.{At, Follows}
use Rattle.listings.proofs.AscendingRules.{ascending-append}
use Rattle.listings.proofs.OrderFacts.{Ordered, smaller_ordered, trichotomy, by_irreflexive, by_transitive, by_total, by_snoc}
use Rattle.listings.proofs.PlaceRules.{at_range, at_member, at_append_left, at_append_right}
use Rattle.set_partitions.specs.KeyOrder.{Edition, one, two, key_before, keys_in_order}
use Rattle.set_partitions.specs.Objects.{is_set_partition, keys, set_partition_before}
use Rattle.set_partitions.specs.Listing.{others_in, block_of}
use Rattle.set_partitions.specs.Inner.Keys.{having, earlier_by, Placed}
use Rattle.set_partitions.specs.Inner.Moves.{opens_late, rest_block, moves, key_beside, key_to}
use Rattle.set_partitions.proofs.Facts.{key_at, key_new, key_old, partition_cases, keys-long, keys-one, keys-put_on}

-- which of two keys comes first

two_cases : (c d : ℕ) → key_before two c d ≡ true → (0 < c) × ((d ≡ 0) ⊎ (c < d))
unfolding key_before
two_cases c d e =
    let both = and-true (ltb 0 c) (eqb d 0 || ltb c d) e in
    (ltb-true 0 c both.0, ⊎_elim (λ q. inl (eqb-true d 0 q)) (λ q. inr (ltb-true c d q)) (or_cases (eqb d 0) (ltb c d) both.1))

-- a block before a higher one
block_before : (e : Edition) (c d : ℕ) → 1 ≤ c → c < d → key_before e c d ≡ true
unfolding key_before
block_before one c d from h = lt-ltb c d h
block_before two c d from h = and_makes (lt-ltb 0 c from) (or_right (eqb d 0) (lt-ltb c d h))

-- in edition 1 a new block before the others
alone_first : (c : ℕ) → 1 ≤ c → key_before one 0 c ≡ true
unfolding key_before
alone_first c from = lt-ltb 0 c from

-- and in edition 2 behind them
alone_last : (c d : ℕ) → 1 ≤ c → d ≡ 0 → key_before two c d ≡ true
unfolding key_before
alone_last c d from z = and_makes (lt-ltb 0 c from) (or_left (ltb c d) (eq-eqb d 0 z))

two-transitive : (a b c : ℕ) → key_before two a b ≡ true → key_before two b c ≡ true → key_before two a c ≡ true
two-transitive a b c h k =
    let (from, later) = two_cases a b h in
    let (some, then) = two_cases b c k in
    let less : a < b = ⊎_elim (λ z. absurd (omega arith)) (λ l. l) later in
    ⊎_elim (alone_last a c from) (λ l. block_before two a c from (omega arith)) then

two-total : (a b : ℕ) → (key_before two a b ≡ true) ⊎ ((a ≡ b) ⊎ (key_before two b a ≡ true))
two-total zero zero = inr (inl refl)
two-total zero (suc b) = inr (inr (alone_last (suc b) 0 (omega arith) refl))
two-total (suc a) zero = inl (alone_last (suc a) 0 (omega arith) refl)
two-total (suc a) (suc b) =
    ⊎_elim (λ h. inl (block_before two (suc a) (suc b) (omega arith) h)) (λ r. inr (⊎_elim inl (λ h. inr (block_before two (suc b) (suc a) (omega arith) h)) r)) (trichotomy (suc a) (suc b))

key_ordered : (e : Edition) → Ordered (key_before e)
key_ordered one = unfold key_before in record { irreflexive = smaller_ordered.irreflexive; transitive = smaller_ordered.transitive; total = smaller_ordered.total }
key_ordered two = record {
  irreflexive = λ a o h. let (from, later) = two_cases a a h in ⊎_elim (λ z. omega arith) (λ l. omega arith) later;
  transitive = λ a b c o p q. two-transitive a b c;
  total = λ a b o p. two-total a b;
}

-- the keys in their order

blocks_ascend : (e : Edition) (a m : ℕ) → Ascending (key_before e) (range (suc a) m)
unfolding range
blocks_ascend e a zero = none
blocks_ascend e a (suc m) = more (λ y k. block_before e (suc a) y (omega arith) (between (suc (suc a)) m k).from) (blocks_ascend e (suc a) m)

pub keys_ascend : (e : Edition) (k : ℕ) → Ascending (key_before e) (keys_in_order e k)
unfolding keys_in_order
keys_ascend one k = more (λ c m. alone_first c (between 1 k m).from) (blocks_ascend one 0 k)
keys_ascend two k =
    ascending-append (blocks_ascend two 0 k) (more (λ c m. absurd (Memᴰ.not-nil m)) none) (λ c d i j. alone_last c d (between 1 k i).from (Memᴰ.eq_of_singleton j))

-- where a key stands among them
unfoldable pub key_place : Edition → ℕ → ℕ → ℕ
key_place one k c = c
key_place two k zero = k
key_place two k (suc b) = b

pub at_key : (e : Edition) (k c : ℕ) → c ≤ k → At (keys_in_order e k) c (key_place e k c)
unfolding keys_in_order key_place
at_key one k zero h = refl
at_key one k (suc b) h = at_range 1 k b h ∙ rw (suc-add, zero-add)
at_key two k zero h = subst (At (range 1 k ++ (0 ∷ [])) 0) (omega (arith, length-range 1 k)) (at_append_right (range 1 k) (0 ∷ []) 0 refl)
at_key two k (suc b) h = at_append_left (range 1 k) (0 ∷ []) b (at_range 1 k b h ∙ rw (suc-add, zero-add))

pub key_listed : (e : Edition) (k c : ℕ) → c ≤ k → Memᴰ c (keys_in_order e k)
key_listed e k c h = at_member (keys_in_order e k) (key_place e k c) (at_key e k c h)

pub listed_key : (e : Edition) (k c : ℕ) → Memᴰ c (keys_in_order e k) → c ≤ k
unfolding keys_in_order
listed_key one k c m = ⊎_elim (λ (z : c ≡ 0). omega arith) (λ r. omega (arith, between 1 k r)) (Memᴰ.cases_cons m)
listed_key two k c m = ⊎_elim (λ r. omega (arith, between 1 k r)) (λ r. omega (arith, Memᴰ.eq_of_singleton r)) (Memᴰ.append_cases (range 1 k) m)

next_key : (e : Edition) (k c d : ℕ) → c ≤ k → d ≤ k → key_place e k d ≡ suc (key_place e k c) → Follows (keys_in_order e k) c d
next_key e k c d h i q = record { place = key_place e k c; here = at_key e k c h; there = subst (At (keys_in_order e k) d) q (at_key e k d i) }

-- sums over the keys, where g is j for each block

module _ (g : ℕ → ℕ) (j : ℕ) (same : (b : ℕ) → g (suc b) ≡ j) where
  over_blocks : (a m : ℕ) → sum_over (range (suc a) m) g ≡ m * j
  unfolding sum_over range
  over_blocks a zero = sym (zero-mul j)
  over_blocks a (suc m) = rw (suc-mul, same a, over_blocks (suc a) m) (omega arith)

  pub all_keys : (e : Edition) (k : ℕ) → sum_over (keys_in_order e k) g ≡ g 0 + k * j
  unfolding keys_in_order sum_over
  all_keys one k = ap (λ s. g 0 + s) (over_blocks 0 k)
  all_keys two k = sum_over-append (range 1 k) (0 ∷ []) g ∙ omega (arith, over_blocks 0 k)

  pub earlier-keys : (e : Edition) (k c : ℕ) → c ≤ k → sum_over (take (key_place e k c) (keys_in_order e k)) g ≡ earlier_by e k c (g 0) j
  unfolding earlier_by keys_in_order key_place sum_over
  earlier-keys one k zero h = refl
  earlier-keys one k (suc b) h = rw (take_range 1 k b (omega arith), over_blocks 0 b)
  earlier-keys two k zero h = rw (take_at (range 1 k) (0 ∷ []) k (length-range 1 k)) (over_blocks 0 k)
  earlier-keys two k (suc b) h =
      ap (λ l. sum_over l g) (sym (take-take b k (range 1 k ++ (0 ∷ [])) (omega arith)) ∙ ap (take b) (take_at (range 1 k) (0 ∷ []) k (length-range 1 k)) ∙ take_range 1 k b (omega arith))
      ∙ over_blocks 0 b

-- the partition of a rank: its last model is alone, or in a block by division

quotient_below : (q k j r s : ℕ) → q * j + s ≡ r → r < k * j → q < k
quotient_below q k j r s e h = elim (dec_lt q k) [ yes g ↦ g | no g ↦ absurd (let l : k ≤ q = omega arith in omega (arith, h, e, mul-le-mul l (le_refl j))) ]

module _ (k r a j : ℕ) (some : 0 < j) (below : r < a + k * j) where
  pub alone_one : r < a → Placed one k r a j 0 r
  unfolding earlier_by having
  alone_one h = record { upto = omega arith; whole = omega arith; within = h }

  pub joined-one : a ≤ r → Placed one k r a j (suc ((r - a) / j)) ((r - a) % j)
  unfolding earlier_by having
  joined-one h =
      let parts = div-add-mod' (r - a) j in
      record { upto = quotient_below ((r - a) / j) k j (r - a) ((r - a) % j) parts (omega arith); whole = omega (arith, parts); within = mod-lt (r - a) some }

  pub alone_two : k * j ≤ r → Placed two k r a j 0 (r - k * j)
  unfolding earlier_by having
  alone_two h = record { upto = omega arith; whole = omega arith; within = omega arith }

  pub joined-two : r < k * j → Placed two k r a j (suc (r / j)) (r % j)
  unfolding earlier_by having
  joined-two h = let parts = div-add-mod' r j in record { upto = quotient_below (r / j) k j r (r % j) parts h; whole = parts; within = mod-lt r some }

-- the order of two partitions by the keys of their last models

module _ (e : Edition) (n k c d : ℕ) (x y : Bytes) (h : c ≤ suc k) (i : d ≤ suc k) (o : is_set_partition n (others_in k c) x ≡ true) (p : is_set_partition n (others_in k d) y ≡ true) where
  before-put_on : set_partition_before e (x ++ (block_of k c ∷ [])) (y ++ (block_of k d ∷ [])) ≡ (key_before e c d || (eqb c d && set_partition_before e x y))
  unfolding set_partition_before
  before-put_on = rw (keys-put_on n k c x h o, keys-put_on n k d y i p) (by_snoc (key_before e) (keys 0 x) (keys 0 y) c d (keys-long n (others_in k c) x o ∙ sym (keys-long n (others_in k d) y p)))

  pub before_less : key_before e c d ≡ true → set_partition_before e (x ++ (block_of k c ∷ [])) (y ++ (block_of k d ∷ [])) ≡ true
  before_less q = before-put_on ∙ or_left (eqb c d && set_partition_before e x y) q

  pub before_tie : c ≡ d → set_partition_before e x y ≡ true → set_partition_before e (x ++ (block_of k c ∷ [])) (y ++ (block_of k d ∷ [])) ≡ true
  before_tie q l = before-put_on ∙ or_right (key_before e c d) (and_makes (eq-eqb c d q) l)

before-total : (e : Edition) (n k : ℕ) (x y : Bytes) → is_set_partition n k x ≡ true → is_set_partition n k y ≡ true → (set_partition_before e x y ≡ true) ⊎ ((x ≡ y) ⊎ (set_partition_before e y x ≡ true))
unfolding set_partition_before
before-total e n k x y o p =
    ⊎_elim inl (λ r. inr (⊎_elim (λ q. inl (keys-one 0 k k x y (partition_cases n k x o).1 (partition_cases n k y p).1 q)) inr r))
    (by_total (key_ordered e) (keys 0 x) (keys 0 y) (keys-long n k x o ∙ sym (keys-long n k y p)))

pub before_strict : (e : Edition) (n k : ℕ) → StrictTotal (is_set_partition n k) (set_partition_before e)
unfolding set_partition_before
before_strict e n k = record {
  irreflexive = λ x o. by_irreflexive (key_ordered e) (keys 0 x);
  transitive = λ x y z o p q. by_transitive (key_ordered e) (keys 0 x) (keys 0 y) (keys 0 z);
  total = before-total e n k;
}

-- what the test of a move says

late_moves : (up : Bool) (n m b : ℕ) → moves true up n m b ≡ (ltb 1 m && leb b m)
unfolding moves
late_moves up n m b = elim (dec_lt m b) [
  | yes h ↦ rw (lt-ltb m b h, lt-leb b m h) (sym (and-false (ltb 1 m)))
  | no h ↦ rw (le-ltb m b (omega arith), le-leb b m (omega arith)) (sym (and-with-true (ltb 1 m)))
]

late_stays : (up : Bool) (n m b : ℕ) → moves true up n m b ≡ false → b ≤ m → m ≤ 1
late_stays up n m b e h = ⊎_elim (ltb-false 1 m) (λ q. absurd (omega (arith, leb-false b m q))) (and_fails (ltb 1 m) (leb b m) (sym (late_moves up n m b) ∙ e))

late_goes : (up : Bool) (n m b : ℕ) → moves true up n m b ≡ true → (1 < m) × (b ≤ m)
late_goes up n m b e = let both = and-true (ltb 1 m) (leb b m) (sym (late_moves up n m b) ∙ e) in (ltb-true 1 m both.0, leb-true b m both.1)

early_new : (up : Bool) (n m b : ℕ) → m < b → moves false up n m b ≡ ltb m n
unfolding moves
early_new up n m b h = rw (lt-ltb m b h)

early_old : (up : Bool) (n m b : ℕ) → b ≤ m → moves false up n m b ≡ not (eqb b (rest_block up m))
unfolding moves
early_old up n m b h = rw (le-ltb m b h)

not_other : (a b : ℕ) → not (eqb a b) ≡ false → a ≡ b
not_other a b e = eqb-true a b (back (eqb a b) e)
  where
    back : (t : Bool) → not t ≡ false → t ≡ true
    back true q = refl
    back false q = sym q

other : (a b : ℕ) → not (eqb a b) ≡ true → a ≡ b → ⊥
other a b e q = false≢true (ap not (sym (eq-eqb a b q)) ∙ e)

-- at the end of the listing a new block stays where blocks open late, and where each model in front has its own

pub new_stays : (late up : Bool) (n m : ℕ) → (late ≡ false → n ≤ m) → moves late up n m (suc m) ≡ false
new_stays true up n m h = unfold moves in rw (lt-ltb m (suc m) (omega arith))
new_stays false up n m h = early_new up n m (suc m) (omega arith) ∙ le-ltb m n (h refl)

-- and so does the one block, and the block of the rest

pub one_stays : (up : Bool) (n : ℕ) → moves true up n 1 1 ≡ false
unfolding moves
one_stays up n = refl

pub rest_stays : (up : Bool) (n m : ℕ) → rest_block up m ≤ m → moves false up n m (rest_block up m) ≡ false
rest_stays up n m h = early_old up n m (rest_block up m) h ∙ ap not (eq-eqb (rest_block up m) (rest_block up m) refl)

-- a model in block b behind n others, which use the blocks 1 to m, k + 1 blocks with its own

module _ (n m b k : ℕ) (few : m ≤ n) (from : 1 ≤ b) (upto : b ≤ suc m) (all : max m b ≡ suc k) where
  abbrev c : ℕ
  c = key_at m b

  abbrev alone : ℕ
  alone = stirling_of n k

  abbrev joined : ℕ
  joined = stirling_of n (suc k)

  -- its key stays: no partition has a key beyond

  none-joined : n ≤ k → suc k * joined ≡ 0
  none-joined h = rw (stirling_none n (suc k) (omega arith), mul-zero)

  none_alone : 1 ≤ m → k ≡ 0 → alone ≡ 0
  none_alone some z = rw z (stirling_zero n (omega arith))

  pub stays_up : (e : Edition) → moves (opens_late e true) true n m b ≡ false → earlier_by e (suc k) c alone joined + having c alone joined ≡ alone + suc k * joined
  unfolding opens_late earlier_by having
  stays_up one t = elim (dec_lt m b) [
    | yes h ↦ rw (key_new m b h) (omega (arith, none-joined (omega (arith, ltb-false m n (sym (early_new true n m b h) ∙ t)))))
    | no h ↦ (
        let high : b ≡ m = not_other b m (sym (early_old true n m b (omega arith)) ∙ t) in
        let q : c ≡ suc k = key_old m b (omega arith) ∙ omega arith in
        rw (q, suc-mul) (omega arith)
        )
  ]
  stays_up two t = elim (dec_lt m b) [
    | yes h ↦ rw (key_new m b h) (omega arith)
    | no h ↦ (
        let low = late_stays true n m b t (omega arith) in
        let z : k ≡ 0 = omega arith in
        let q : c ≡ 1 = key_old m b (omega arith) ∙ omega arith in
        rw q (omega (arith, none_alone (omega arith) z, ap (λ i. suc i * joined) z, zero-mul joined, suc-mul 0 joined))
        )
  ]

  pub stays_down : (e : Edition) → moves (opens_late e false) false n m b ≡ false → earlier_by e (suc k) c alone joined ≡ 0
  unfolding opens_late earlier_by
  stays_down one t = elim (dec_lt m b) [
    | yes h ↦ rw (key_new m b h)
    | no h ↦ (
        let low = late_stays false n m b t (omega arith) in
        let q : c ≡ 1 = key_old m b (omega arith) ∙ omega arith in
        rw q (omega (arith, none_alone (omega arith) (omega arith), zero-mul joined))
        )
  ]
  stays_down two t = elim (dec_lt m b) [
    | yes h ↦ rw (key_new m b h) (none-joined (omega (arith, ltb-false m n (sym (early_new false n m b h) ∙ t))))
    | no h ↦ (
        let low : b ≡ 1 = not_other b 1 (sym (early_old false n m b (omega arith)) ∙ t) in
        let q : c ≡ 1 = key_old m b (omega arith) ∙ low in
        rw q (zero-mul joined)
        )
  ]

-- or it goes to the key beside it, out of l, and those in front can be in as many blocks as that key says

pub record Goes (e : Edition) (up : Bool) (n k l c : ℕ) : Type 0 where
  pub beside : Beside up (keys_in_order e l) c (key_beside up l c)
  pub fits : (others_in k (key_beside up l c) ≤ n) × (others_in k (key_beside up l c) ≡ 0 → n ≡ 0)

module _ (e : Edition) (n k c : ℕ) (few : k ≤ n) where
  fit : (d : ℕ) → (d ≡ 0 → 1 ≤ k) → (1 ≤ d → k < n) → (others_in k d ≤ n) × (others_in k d ≡ 0 → n ≡ 0)
  unfolding others_in
  fit zero some room = (few, λ z. absurd (omega (arith, some refl)))
  fit (suc b) some room = (room (omega arith), λ z. absurd (omega arith))

  goes-up : (d : ℕ) → c ≤ suc k → d ≤ suc k → key_beside true (suc k) c ≡ d → key_place e (suc k) d ≡ suc (key_place e (suc k) c) → (d ≡ 0 → 1 ≤ k) → (1 ≤ d → k < n) → Goes e true n k (suc k) c
  goes-up d h i q p some room = record { beside = rw q (after (next_key e (suc k) c d h i p)); fits = rw q (fit d some room) }

  goes_down : (d : ℕ) → c ≤ suc k → d ≤ suc k → key_beside false (suc k) c ≡ d → key_place e (suc k) c ≡ suc (key_place e (suc k) d) → (d ≡ 0 → 1 ≤ k) → (1 ≤ d → k < n) → Goes e false n k (suc k) c
  goes_down d h i q p some room = record { beside = rw q (before (next_key e (suc k) d c i h p)); fits = rw q (fit d some room) }

-- round the ring

ring_up : (k c : ℕ) → c < k → key_beside true k c ≡ suc c
ring_up k c h = rw (ne_eqb c k (omega arith), add-one)

ring_over : (k c : ℕ) → c ≡ k → key_beside true k c ≡ 0
ring_over k c h = rw (eq-eqb c k h)

ring_down : (k c : ℕ) → key_beside false k (suc c) ≡ c
ring_down k c = rw (ne_eqb (suc c) 0 (λ z. omega arith)) (omega arith)

module _ (n m b k : ℕ) (few : m ≤ n) (upto : suc b ≤ suc m) (all : max m (suc b) ≡ suc k) where
  up_one : moves false true n m (suc b) ≡ true → Goes one true n k (suc k) (key_at m (suc b))
  unfolding key_place
  up_one t = elim (dec_lt m (suc b)) [
    | yes h ↦ (let room = ltb-true m n (sym (early_new true n m (suc b) h) ∙ t) in rw (key_new m (suc b) h) (goes-up one n k 0 (omega arith) 1 (omega arith) (omega arith) (ring_up (suc k) 0 (omega arith)) refl (λ z. absurd (omega arith)) (λ z. omega arith)))
    | no h ↦ (
        let low : suc b ≡ m → ⊥ = other (suc b) m (sym (early_old true n m (suc b) (omega arith)) ∙ t) in
        rw (key_old m (suc b) (omega arith)) (goes-up one n k (suc b) (omega arith) (suc (suc b)) (omega arith) (omega arith) (ring_up (suc k) (suc b) (omega arith)) refl (λ z. absurd (omega arith)) (λ z. omega arith))
        )
  ]

  up-two : moves true true n m (suc b) ≡ true → Goes two true n k (suc k) (key_at m (suc b))
  unfolding key_place
  up-two t =
      let (some, h) = late_goes true n m (suc b) t in
      rw (key_old m (suc b) h) (elim (dec_lt (suc b) m) [
        | yes l ↦ goes-up two n k (suc b) (omega arith) (suc (suc b)) (omega arith) (omega arith) (ring_up (suc k) (suc b) (omega arith)) refl (λ z. absurd (omega arith)) (λ z. omega arith)
        | no l ↦ goes-up two n k (suc b) (omega arith) 0 (omega arith) (omega arith) (ring_over (suc k) (suc b) (omega arith)) (omega arith) (λ z. omega arith) (λ z. absurd (omega arith))
      ])

  down_one : moves true false n m (suc b) ≡ true → Goes one false n k (suc k) (key_at m (suc b))
  unfolding key_place
  down_one t =
      let (some, h) = late_goes false n m (suc b) t in
      rw (key_old m (suc b) h) (goes_down one n k (suc b) (omega arith) b (omega arith) (omega arith) (ring_down (suc k) b) refl (λ z. omega arith) (λ z. omega arith))

  down_two : moves false false n m (suc b) ≡ true → Goes two false n k (suc k) (key_at m (suc b))
  unfolding key_place
  down_two t = elim (dec_lt m (suc b)) [
    | yes h ↦ (let room = ltb-true m n (sym (early_new false n m (suc b) h) ∙ t) in rw (key_new m (suc b) h) (goes_down two n k 0 (omega arith) (suc k) (omega arith) (omega arith) refl refl (λ z. absurd (omega arith)) (λ z. omega arith)))
    | no h ↦ (
        let high : suc b ≡ 1 → ⊥ = other (suc b) 1 (sym (early_old false n m (suc b) (omega arith)) ∙ t) in
        rw (key_old m (suc b) (omega arith)) (goes_down two n k (suc b) (omega arith) b (omega arith) (omega arith) (ring_down (suc k) b) (place b (omega arith)) (λ z. absurd (omega arith)) (λ z. omega arith))
        )
  ]
    where
      place : (d : ℕ) → 1 ≤ d → key_place two (suc k) (suc d) ≡ suc (key_place two (suc k) d)
      place zero l = absurd (omega arith)
      place (suc d) l = unfold key_place in refl

pub goes : (e : Edition) (up : Bool) (n m b k : ℕ) → m ≤ n → 1 ≤ b → b ≤ suc m → max m b ≡ suc k → moves (opens_late e up) up n m b ≡ true → Goes e up n k (suc k) (key_at m b)
unfolding opens_late
goes e up n m zero k few from upto all t = absurd (omega arith)
goes one true n m (suc b) k few from upto all t = up_one n m b k few upto all t
goes one false n m (suc b) k few from upto all t = down_one n m b k few upto all t
goes two true n m (suc b) k few from upto all t = up-two n m b k few upto all t
goes two false n m (suc b) k few from upto all t = down_two n m b k few upto all t

-- what that makes of the model's block, and of the number of blocks in front of it, as they are worked out

abbrev pub Becomes : Bool → ℕ → ℕ → ℕ → ℕ → Type 0
Becomes up u b v m = (v ≡ block_of (max u b - 1) (key_to up u b)) × (m ≡ others_in (max u b - 1) (key_to up u b))

block_becomes : (up : Bool) (u b v m : ℕ) → key_to up u b ≡ v → 1 ≤ v → max u b ≡ m → 1 ≤ m → Becomes up u b v m
unfolding block_of others_in
block_becomes up u b zero m q from all some = absurd (omega arith)
block_becomes up u b (suc d) m q from all some = rw (q, all) (refl, omega arith)

new_becomes : (up : Bool) (u b m : ℕ) → key_to up u b ≡ 0 → max u b ≡ m → 1 ≤ m → Becomes up u b m (m - 1)
unfolding block_of others_in
new_becomes up u b m q all some = rw (q, all) (omega arith, refl)

from_new : (up : Bool) (u b : ℕ) → u < b → Becomes up u b (rest_block (not up) b) b
from_new true u b h = block_becomes true u b 1 b (rw (lt-ltb u b h, ne_eqb 0 (max u b) (λ z. omega arith)) refl) (omega arith) (omega arith) (omega arith)
from_new false u b h = block_becomes false u b b b (rw (lt-ltb u b h) (omega arith)) (omega arith) (omega arith) (omega arith)

from_rest : (up : Bool) (u b : ℕ) → 1 ≤ b → b ≤ u → b ≡ rest_block up u → Becomes up u b u (u - 1)
from_rest true u b from upto q = new_becomes true u b u (rw (le-ltb u b upto, eq-eqb b (max u b) (omega arith))) (omega arith) (omega arith)
from_rest false u b from upto q = new_becomes false u b u (rw (le-ltb u b upto, ne_eqb b 0 (λ z. omega arith)) (omega arith)) (omega arith) (omega arith)

from_other : (up : Bool) (u b : ℕ) → 1 ≤ b → b ≤ u → (b ≡ rest_block up u → ⊥) → Becomes up u b (cond up (b + 1) (b - 1)) u
from_other true u b from upto other = block_becomes true u b (b + 1) u (rw (le-ltb u b upto, ne_eqb b (max u b) (λ z. other (omega arith)))) (omega arith) (omega arith) (omega arith)
from_other false u b from upto other = block_becomes false u b (b - 1) u (rw (le-ltb u b upto, ne_eqb b 0 (λ z. omega arith))) (omega arith) (omega arith) (omega arith)

-- the last block to go to, or another
from_old : (up : Bool) (u b : ℕ) → 1 ≤ b → b ≤ u → let last = eqb b (rest_block up u) in Becomes up u b (cond last u (cond up (b + 1) (b - 1))) (cond last (u - 1) u)
from_old up u b from upto = ⊎_elim
    (λ t. rw t (from_rest up u b from upto (eqb-true b (rest_block up u) t)))
    (λ f. rw f (from_other up u b from upto (λ q. false≢true (sym f ∙ eq-eqb b (rest_block up u) q))))
    (true_or_false (eqb b (rest_block up u)))

-- or a new block
pub moved_key : (up : Bool) (u b : ℕ) → 1 ≤ b → let last = eqb b (rest_block up u) in Becomes up u b (cond (ltb u b) (rest_block (not up) b) (cond last u (cond up (b + 1) (b - 1)))) (cond (ltb u b) b (cond last (u - 1) u))
moved_key up u b from =
    let last = eqb b (rest_block up u) in
    let P : Bool → Type 0 = λ new. Becomes up u b (cond new (rest_block (not up) b) (cond last u (cond up (b + 1) (b - 1)))) (cond new b (cond last (u - 1) u)) in
    elim (dec_lt u b) [ yes h ↦ subst P (sym (lt-ltb u b h)) (from_new up u b h) | no h ↦ subst P (sym (le-ltb u b (omega arith))) (from_old up u b from (omega arith)) ]
