-- The test of set partitions and the keys are what specs/Meaning.antt says by membership and places: the test both ways, and the key of every model.
-- Assumes nothing.
use mathlib.Core.Path.{◌≡◌, refl, sym, ◌∙◌, ap, subst}
use mathlib.Core.Logic.{◌⊎◌, inl, inr, ⊎_elim}
use mathlib.Core.Bool.{true}
use mathlib.Core.Option.{Option, some, some-injective, none-ne-some}
use mathlib.Core.List.Memᴰ
use mathlib.Core.List.{[], ◌∷◌, Memᴰ}
use Prim.Native.Nat.{ℕ, zero, suc, ◌≤◌, ◌<◌, max}
use native.Nat.{ℕᴺ_discrete}
use native.Mathlib.Decide.{dec_lt}
use native.Mathlib.Omega.{arith}
use lib.ListN.{length}
use borrow.Author.Tests.{eqb-true, eq-eqb}
use Rattle.listings.specs.Bytes.{Bytes}
use Rattle.listings.specs.Places.{At}
use Rattle.listings.proofs.PlaceRules.{at_member, member_at, at_exists}
use Rattle.set_partitions.specs.Objects.{opens, is_set_partition, keys}
use Rattle.set_partitions.specs.Meaning.{Smallest, Later, SetPartition}
use Rattle.set_partitions.proofs.Facts.{opens-cases, opens_makes, key_new, key_old, partition_cases, partition_makes}

-- a block with a model has a smallest one, and every model is that or a later one

smallest_of : (x : Bytes) (i b : ℕ) → At x b i → (j : ℕ) × (j ≤ i) × Smallest x j b
smallest_of [] i b h = absurd (none-ne-some b h)
smallest_of (a ∷ x) zero b h = (0, omega arith, record { here = h; first = λ j l. absurd (omega arith) })
smallest_of (a ∷ x) (suc i) b h = step (ℕᴺ_discrete a b) (smallest_of x i b h)
  where
    step : Dec (a ≡ b) → (j : ℕ) × (j ≤ i) × Smallest x j b → (j : ℕ) × (j ≤ suc i) × Smallest (a ∷ x) j b
    step (yes e) t = (0, omega arith, record { here = ap {B = Option ℕ} some e; first = λ j l. absurd (omega arith) })
    step (no other) (j, near, s) = (suc j, omega arith, record { here = s.here; first = first })
      where
        first : (r : ℕ) → r < suc j → At (a ∷ x) b r → ⊥
        first zero l k = other (some-injective a b k)
        first (suc r) l k = s.first r (omega arith) k

smallest_or_not : (x : Bytes) (i b : ℕ) → At x b i → Smallest x i b ⊎ Later x i b
smallest_or_not x i b h =
    let (j, near, s) = smallest_of x i b h in
    elim (dec_lt j i) [ yes l ↦ inr (record { here = h; earlier = j; before = l; there = s.here }) | no nl ↦ inl (subst (λ r. Smallest x r b) (omega arith) s) ]

pub smallest_or_later : (x : Bytes) (i : ℕ) → i < length x → (b : ℕ) × (Smallest x i b ⊎ Later x i b)
smallest_or_later x i l = let (b, h) = at_exists x i l in (b, smallest_or_not x i b h)

-- what the test says, with the blocks 1 to m used before x

opens_most : (m k : ℕ) (x : Bytes) → opens m k x ≡ true → m ≤ k
unfolding opens
opens_most m k [] o = omega (arith, eqb-true m k o)
opens_most m k (a ∷ x) o = omega (arith, opens_most (max m a) k x (opens-cases m k a x o).rest)

opens-blocks : (m k : ℕ) (x : Bytes) → opens m k x ≡ true → (b : ℕ) → Memᴰ b x → (1 ≤ b) × (b ≤ k)
opens-blocks m k [] o b h = absurd (Memᴰ.not-nil h)
opens-blocks m k (a ∷ x) o b h =
    let f = opens-cases m k a x o in
    ⊎_elim (λ (e : b ≡ a). (omega arith, omega (arith, opens_most (max m a) k x f.rest))) (opens-blocks (max m a) k x f.rest b) (Memᴰ.cases_cons h)

-- a block b that is not used yet is that of the model just read, or is still not used
this_or_unused : (m a b : ℕ) → a ≤ suc m → m < b → (a ≡ b) ⊎ (max m a < b)
this_or_unused m a b upto above = elim (dec_lt a b) [ yes l ↦ inr (omega arith) | no nl ↦ inl (omega arith) ]

opens-used : (m k : ℕ) (x : Bytes) → opens m k x ≡ true → (b : ℕ) → m < b → b ≤ k → Memᴰ b x
unfolding opens
opens-used m k [] o b above upto = absurd (omega (arith, eqb-true m k o))
opens-used m k (a ∷ x) o b above upto =
    let f = opens-cases m k a x o in
    ⊎_elim (λ e. Memᴰ.head (sym e)) (λ l. Memᴰ.tail (opens-used (max m a) k x f.rest b l upto)) (this_or_unused m a b f.upto above)

opens_lower : (m k : ℕ) (x : Bytes) → opens m k x ≡ true → (b c j : ℕ) → m < b → b < c → At x c j → (i : ℕ) × (i < j) × At x b i
opens_lower m k [] o b c j above l h = absurd (none-ne-some c h)
opens_lower m k (a ∷ x) o b c zero above l h = absurd (omega (arith, (opens-cases m k a x o).upto, some-injective a c h))
opens_lower m k (a ∷ x) o b c (suc j) above l h =
    let f = opens-cases m k a x o in
    step (λ above'. opens_lower (max m a) k x f.rest b c j above' l h) (this_or_unused m a b f.upto above)
  where
    step : (max m a < b → (i : ℕ) × (i < j) × At x b i) → (a ≡ b) ⊎ (max m a < b) → (i : ℕ) × (i < suc j) × At (a ∷ x) b i
    step rest (inl e) = (0, omega arith, ap {B = Option ℕ} some e)
    step rest (inr above') = let (i, near, h') = rest above' in (suc i, omega arith, h')

pub means : (n k : ℕ) (x : Bytes) → is_set_partition n k x ≡ true → SetPartition n k x
means n k x e = record { models = both.0; blocks = blocks; used = λ b from upto. opens-used 0 k x both.1 b from upto; numbered = numbered }
  where
    both : (length x ≡ n) × (opens 0 k x ≡ true)
    both = partition_cases n k x e

    blocks : (b : ℕ) → Memᴰ b x → (1 ≤ b) × (b ≤ k)
    blocks = opens-blocks 0 k x both.1

    numbered : (b c i j : ℕ) → b < c → Smallest x i b → Smallest x j c → i < j
    numbered b c i j l s t =
        let (r, near, h) = opens_lower 0 k x both.1 b c j (blocks b (at_member x i s.here)).0 l t.here in
        elim (dec_lt r i) [ yes p ↦ absurd (s.first r p h) | no np ↦ omega arith ]

-- what makes it true, with the blocks 1 to m used before x

record Remaining (m k : ℕ) (x : Bytes) : Type 0 where
  most : m ≤ k
  blocks : (b : ℕ) → Memᴰ b x → (1 ≤ b) × (b ≤ k)
  used : (b : ℕ) → m < b → b ≤ k → Memᴰ b x
  lower : (b c j : ℕ) → m < b → b < c → At x c j → (i : ℕ) × (i < j) × At x b i

remaining_upto : (m k a : ℕ) (x : Bytes) → Remaining m k (a ∷ x) → a ≤ suc m
remaining_upto m k a x r = elim (dec_lt (suc m) a) [ yes l ↦ absurd (omega (arith, (r.lower (suc m) a 0 (omega arith) l refl).1)) | no nl ↦ omega arith ]

remaining_rest : (m k a : ℕ) (x : Bytes) → Remaining m k (a ∷ x) → Remaining (max m a) k x
remaining_rest m k a x r =
    record {
      most = omega (arith, r.most, (r.blocks a (Memᴰ.head refl)).1);
      blocks = λ b h. r.blocks b (Memᴰ.tail h);
      used = λ b above upto. ⊎_elim (λ (e : b ≡ a). absurd (omega arith)) (λ h. h) (Memᴰ.cases_cons (r.used b (omega arith) upto));
      lower = λ b c j above l h. back b j above (r.lower b c (suc j) (omega arith) l h);
    }
  where
    back : (b j : ℕ) → max m a < b → (i : ℕ) × (i < suc j) × At (a ∷ x) b i → (i : ℕ) × (i < j) × At x b i
    back b j above (zero, l, h) = absurd (omega (arith, some-injective a b h))
    back b j above (suc i, l, h) = (i, omega arith, h)

remaining_opens : (m k : ℕ) (x : Bytes) → Remaining m k x → opens m k x ≡ true
unfolding opens
remaining_opens m k [] r = elim (dec_lt m k) [ yes l ↦ absurd (Memᴰ.not-nil (r.used k l (omega arith))) | no nl ↦ eq-eqb m k (omega (arith, r.most)) ]
remaining_opens m k (a ∷ x) r =
    opens_makes m k a x (r.blocks a (Memᴰ.head refl)).0 (remaining_upto m k a x r) (remaining_opens (max m a) k x (remaining_rest m k a x r))

-- "numbered by their smallest model", said of any model: before it stands one of each lower block
pub lower_before : (n k : ℕ) (x : Bytes) → SetPartition n k x → (b c j : ℕ) → 1 ≤ b → b < c → At x c j → (i : ℕ) × (i < j) × At x b i
lower_before n k x p b c j from l h =
    let (r, h') = member_at (p.used b from (omega (arith, (p.blocks c (at_member x j h)).1))) in
    let (i, _, s) = smallest_of x r b h' in
    let (j', near, t) = smallest_of x j c h in
    (i, omega (arith, p.numbered b c i j' l s t), s.here)

pub meant : (n k : ℕ) (x : Bytes) → SetPartition n k x → is_set_partition n k x ≡ true
meant n k x p =
    let r : Remaining 0 k x = record { most = omega arith; blocks = p.blocks; used = λ b above upto. p.used b above upto; lower = lower_before n k x p } in
    partition_makes n k x p.models (remaining_opens 0 k x r)

-- the keys, with the blocks 1 to m used before x

key_used : (m : ℕ) (x : Bytes) (i b : ℕ) → b ≤ m → At x b i → At (keys m x) b i
unfolding keys
key_used m [] i b upto h = absurd (none-ne-some b h)
key_used m (a ∷ x) zero b upto h =
    let e : a ≡ b = some-injective a b h in
    ap {B = Option ℕ} some (key_old m a (omega arith) ∙ e)
key_used m (a ∷ x) (suc i) b upto h = key_used (max m a) x i b (omega arith) h

key_later : (m : ℕ) (x : Bytes) (j i b : ℕ) → j < i → At x b j → At x b i → At (keys m x) b i
unfolding keys
key_later m [] j i b l g h = absurd (none-ne-some b h)
key_later m (a ∷ x) j zero b l g h = absurd (omega arith)
key_later m (a ∷ x) zero (suc i) b l g h = key_used (max m a) x i b (omega (arith, some-injective a b g)) h
key_later m (a ∷ x) (suc j) (suc i) b l g h = key_later (max m a) x j i b (omega arith) g h

key_unused : (m k : ℕ) (x : Bytes) → opens m k x ≡ true → (i b : ℕ) → m < b → Smallest x i b → At (keys m x) 0 i
unfolding keys
key_unused m k [] o i b above s = absurd (none-ne-some b s.here)
key_unused m k (a ∷ x) o zero b above s = ap {B = Option ℕ} some (key_new m a (omega (arith, some-injective a b s.here)))
key_unused m k (a ∷ x) o (suc i) b above s =
    let f = opens-cases m k a x o in
    let rest : Smallest x i b = record { here = s.here; first = λ j l h. s.first (suc j) (omega arith) h } in
    ⊎_elim (λ e. absurd (s.first 0 (omega arith) (ap {B = Option ℕ} some e))) (λ above'. key_unused (max m a) k x f.rest i b above' rest) (this_or_unused m a b f.upto above)

pub key_of_smallest : (n k : ℕ) (x : Bytes) → is_set_partition n k x ≡ true → (i b : ℕ) → Smallest x i b → At (keys 0 x) 0 i
key_of_smallest n k x e i b s = key_unused 0 k x (partition_cases n k x e).1 i b ((means n k x e).blocks b (at_member x i s.here)).0 s

-- this one holds of any bytes
pub key_of_other : (x : Bytes) (i b : ℕ) → Later x i b → At (keys 0 x) b i
key_of_other x i b s = key_later 0 x s.earlier i b s.before s.there s.here
