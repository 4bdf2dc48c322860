-- What the test of set partitions says: the first model, the last model taken off and put on again by its key, and that the keys tell the blocks.
-- Assumes nothing.
use mathlib.Core.Path.{◌≡◌, refl, sym, ◌∙◌, ap, ap₂, subst}
use mathlib.Core.Bool.{true, cond, ◌&&◌}
use mathlib.Core.List.{[], ◌∷◌, ◌++◌, head-eq_of_cons-eq, tail-eq_of_cons-eq}
use Prim.Native.Nat.{ℕ, zero, suc, ◌+◌, ◌≤◌, ◌<◌, max}
use native.Mathlib.Decide.{dec_lt}
use native.Mathlib.Omega.{arith}
use lib.Dec.{leb, ltb, eqb}
use lib.ListN.{length, take, get_or, length-append}
use borrow.Author.Tests.{leb-true, le-leb, lt-ltb, le-ltb, eqb-true, eq-eqb}
use Rattle.listings.specs.Bytes.{Bytes}
use Rattle.basics.proofs.Bools.{and-true, and_makes}
use Rattle.basics.proofs.Lists.{last_split}
use Rattle.set_partitions.specs.Objects.{opens, is_set_partition, keys}
use Rattle.set_partitions.specs.Listing.{others_in, block_of}

-- the first model, with m blocks used before it

pub record Opened (m k b : ℕ) (x : Bytes) : Type 0 where
  pub from : 1 ≤ b
  pub upto : b ≤ suc m
  pub rest : opens (max m b) k x ≡ true

pub opens-cases : (m k b : ℕ) (x : Bytes) → opens m k (b ∷ x) ≡ true → Opened m k b x
unfolding opens
opens-cases m k b x e =
    let both = and-true (leb 1 b && leb b (suc m)) (opens (max m b) k x) e in
    let ends = and-true (leb 1 b) (leb b (suc m)) both.0 in
    record { from = leb-true 1 b ends.0; upto = leb-true b (suc m) ends.1; rest = both.1 }

pub opens_makes : (m k b : ℕ) (x : Bytes) → 1 ≤ b → b ≤ suc m → opens (max m b) k x ≡ true → opens m k (b ∷ x) ≡ true
unfolding opens
opens_makes m k b x from upto rest = and_makes (and_makes (le-leb 1 b from) (le-leb b (suc m) upto)) rest

-- the key of a model in block b, with m blocks used before it

abbrev pub key_at : ℕ → ℕ → ℕ
key_at m b = cond (ltb m b) 0 b

pub key_new : (m b : ℕ) → m < b → key_at m b ≡ 0
key_new m b h = rw (lt-ltb m b h)

pub key_old : (m b : ℕ) → b ≤ m → key_at m b ≡ b
key_old m b h = rw (le-ltb m b h)

-- a key and the blocks used tell the block
block_told : (m b : ℕ) → 1 ≤ b → b ≤ suc m → b ≡ block_of m (key_at m b)
unfolding block_of
block_told m zero from upto = absurd (omega arith)
block_told m (suc b) from upto = elim (dec_lt m (suc b)) [ yes h ↦ rw (key_new m (suc b) h) (omega arith) | no h ↦ rw (key_old m (suc b) (omega arith)) ]

length-keys : (m : ℕ) (x : Bytes) → length (keys m x) ≡ length x
unfolding keys
length-keys m [] = refl
length-keys m (b ∷ x) = ap suc (length-keys (max m b) x)

pub keys-one : (m j k : ℕ) (x y : Bytes) → opens m j x ≡ true → opens m k y ≡ true → keys m x ≡ keys m y → x ≡ y
unfolding keys
keys-one m j k [] [] o p e = refl
keys-one m j k [] (b ∷ y) o p e = absurd (omega (arith, ap length e))
keys-one m j k (a ∷ x) [] o p e = absurd (omega (arith, ap length e))
keys-one m j k (a ∷ x) (b ∷ y) o p e =
    let f = opens-cases m j a x o in
    let g = opens-cases m k b y p in
    let q : a ≡ b = block_told m a f.from f.upto ∙ ap (block_of m) (head-eq_of_cons-eq e) ∙ sym (block_told m b g.from g.upto) in
    ap₂ {C = Bytes} (λ c z. c ∷ z) q (keys-one (max m a) j k x y f.rest (rw q g.rest) (tail-eq_of_cons-eq e ∙ rw q))

-- the last model, in block b behind x

record Behind (m k b : ℕ) (x : Bytes) : Type 0 where
  blocks : ℕ
  front : opens m blocks x ≡ true
  from : 1 ≤ b
  upto : b ≤ suc blocks
  all : max blocks b ≡ k

opens-last : (m k b : ℕ) (x : Bytes) → opens m k (x ++ (b ∷ [])) ≡ true → Behind m k b x
unfolding opens
opens-last m k b [] e =
    let f = opens-cases m k b [] e in
    record { blocks = m; front = eq-eqb m m refl; from = f.from; upto = f.upto; all = eqb-true (max m b) k f.rest }
opens-last m k b (a ∷ x) e =
    let f = opens-cases m k a (x ++ (b ∷ [])) e in
    let l = opens-last (max m a) k b x f.rest in
    record { blocks = l.blocks; front = opens_makes m l.blocks a x f.from f.upto l.front; from = l.from; upto = l.upto; all = l.all }

opens-snoc : (m j b : ℕ) (x : Bytes) → opens m j x ≡ true → 1 ≤ b → b ≤ suc j → opens m (max j b) (x ++ (b ∷ [])) ≡ true
unfolding opens
opens-snoc m j b [] e from upto =
    let same : m ≡ j = eqb-true m j e in
    opens_makes m (max j b) b [] from (omega arith) (eq-eqb (max m b) (max j b) (omega arith))
opens-snoc m j b (a ∷ x) e from upto =
    let f = opens-cases m j a x e in
    opens_makes m (max j b) a (x ++ (b ∷ [])) f.from f.upto (opens-snoc (max m a) j b x f.rest from upto)

keys-snoc : (m j b : ℕ) (x : Bytes) → opens m j x ≡ true → keys m (x ++ (b ∷ [])) ≡ keys m x ++ (key_at j b ∷ [])
unfolding keys opens
keys-snoc m j b [] e = rw (eqb-true m j e)
keys-snoc m j b (a ∷ x) e = rw (keys-snoc (max m a) j b x (opens-cases m j a x e).rest)

-- the test of n models in k blocks

pub partition_cases : (n k : ℕ) (x : Bytes) → is_set_partition n k x ≡ true → (length x ≡ n) × (opens 0 k x ≡ true)
unfolding is_set_partition
partition_cases n k x e =
    let both = and-true (eqb (length x) n) (opens 0 k x) e in
    (eqb-true (length x) n both.0, both.1)

pub partition_makes : (n k : ℕ) (x : Bytes) → length x ≡ n → opens 0 k x ≡ true → is_set_partition n k x ≡ true
unfolding is_set_partition
partition_makes n k x long o = and_makes (eq-eqb (length x) n long) o

pub keys-long : (n k : ℕ) (x : Bytes) → is_set_partition n k x ≡ true → length (keys 0 x) ≡ n
keys-long n k x e = length-keys 0 x ∙ (partition_cases n k x e).0

-- no model: no block
pub partition_none : (k : ℕ) (x : Bytes) → is_set_partition 0 k x ≡ true → (x ≡ []) × (k ≡ 0)
unfolding opens
partition_none k [] e = (refl, sym (eqb-true 0 k (partition_cases 0 k [] e).1))
partition_none k (b ∷ x) e = absurd (omega (arith, (partition_cases 0 k (b ∷ x) e).0))

-- some model: a last one, and a block
pub record Ended (k : ℕ) (y : Bytes) : Type 0 where
  pub front : Bytes
  pub block : ℕ
  pub whole : y ≡ front ++ (block ∷ [])
  pub some : 1 ≤ k

pub partition_ends : (n k : ℕ) (y : Bytes) → is_set_partition (suc n) k y ≡ true → Ended k y
partition_ends n k y e =
    let both = partition_cases (suc n) k y e in
    let q = last_split n y both.0 in
    let l = opens-last 0 k (get_or y n 0) (take n y) (subst (λ z. opens 0 k z ≡ true) q both.1) in
    record { front = take n y; block = get_or y n 0; whole = q; some = omega (arith, l.from, l.all) }

-- the last model by its key c, in suc k blocks

record Keyed (k c : ℕ) : Type 0 where
  from : 1 ≤ block_of k c
  upto : block_of k c ≤ suc (others_in k c)
  all : max (others_in k c) (block_of k c) ≡ suc k
  same : key_at (others_in k c) (block_of k c) ≡ c

keyed : (k c : ℕ) → c ≤ suc k → Keyed k c
unfolding others_in block_of
keyed k zero h = record { from = omega arith; upto = omega arith; all = omega arith; same = key_new k (suc k) (omega arith) }
keyed k (suc b) h = record { from = omega arith; upto = omega arith; all = omega arith; same = key_old (suc k) (suc b) h }

pub put_on : (n k c : ℕ) (x : Bytes) → c ≤ suc k → is_set_partition n (others_in k c) x ≡ true → is_set_partition (suc n) (suc k) (x ++ (block_of k c ∷ [])) ≡ true
put_on n k c x h e =
    let both = partition_cases n (others_in k c) x e in
    let f : Keyed k c = keyed k c h in
    partition_makes (suc n) (suc k) (x ++ (block_of k c ∷ [])) (rw length-append (omega arith)) (rw f.all at (opens-snoc 0 (others_in k c) (block_of k c) x both.1 f.from f.upto))

pub keys-put_on : (n k c : ℕ) (x : Bytes) → c ≤ suc k → is_set_partition n (others_in k c) x ≡ true → keys 0 (x ++ (block_of k c ∷ [])) ≡ keys 0 x ++ (c ∷ [])
keys-put_on n k c x h e =
    keys-snoc 0 (others_in k c) (block_of k c) x (partition_cases n (others_in k c) x e).1 ∙ ap (λ d. keys 0 x ++ (d ∷ [])) (keyed k c h).same

-- its key is 0 if its block is above the m that the others use, else its block
pub record Found (m k b : ℕ) : Type 0 where
  pub small : key_at m b ≤ suc k
  pub block : b ≡ block_of k (key_at m b)
  pub others : m ≡ others_in k (key_at m b)

pub key_found : (m k b : ℕ) → 1 ≤ b → b ≤ suc m → max m b ≡ suc k → Found m k b
unfolding others_in block_of
key_found m k zero from upto all = absurd (omega arith)
key_found m k (suc b) from upto all = elim (dec_lt m (suc b)) [
  | yes h ↦ (let e = key_new m (suc b) h in record { small = rw e (omega arith); block = rw e (omega arith); others = rw e (omega arith) })
  | no h ↦ (let e = key_old m (suc b) (omega arith) in record { small = rw e (omega arith); block = rw e refl; others = rw e (omega arith) })
]

pub record Taken (n k b : ℕ) (x : Bytes) : Type 0 where
  pub key : ℕ
  pub small : key ≤ suc k
  pub block : b ≡ block_of k key
  pub front : is_set_partition n (others_in k key) x ≡ true

pub take_off : (n k b : ℕ) (x : Bytes) → is_set_partition (suc n) (suc k) (x ++ (b ∷ [])) ≡ true → Taken n k b x
take_off n k b x e =
    let both = partition_cases (suc n) (suc k) (x ++ (b ∷ [])) e in
    let l = opens-last 0 (suc k) b x both.1 in
    let t = key_found l.blocks k b l.from l.upto l.all in
    let long : length x + 1 ≡ suc n = rw length-append at both.0 in
    record { key = key_at l.blocks b; small = t.small; block = t.block; front = partition_makes n _ x (omega arith) (subst (λ j. opens 0 j x ≡ true) t.others l.front) }
