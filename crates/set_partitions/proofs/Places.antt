-- Where a partition with one model more stands, by the key of that model; which are the first and the last in either edition.
-- Assumes nothing.
use mathlib.Core.Path.{◌≡◌, refl, sym, ◌∙◌, ap, subst, subst₂}
use mathlib.Core.Bool.{Bool, true, false, false≢true}
use mathlib.Core.List.{[], ◌∷◌, ◌++◌, append-nil, append_assoc}
use Prim.Native.Nat.{ℕ, zero, suc, ◌+◌, ◌-◌, ◌≤◌, max}
use native.Mathlib.Nat.{zero-add, add-zero, suc-add, add-suc}
use native.Mathlib.Numerals.{add-one}
use native.Mathlib.Omega.{arith}
use lib.ListN.{length, replicate, replicate-append-replicate}
use Rattle.basics.specs.Sums.{range}
use Rattle.basics.proofs.Ranges.{range_snoc}
use Rattle.numbers.specs.Numbers.{stirling_of}
use Rattle.numbers.proofs.Stirlings.{stirling_rule}
use Rattle.listings.specs.Bytes.{Bytes}
use Rattle.listings.specs.Directions.{Edge, latest, earliest}
use Rattle.listings.specs.Places.{At}
use Rattle.listings.proofs.ChoicePlaces.{at_choice}
use Rattle.set_partitions.specs.KeyOrder.{Edition, keys_in_order}
use Rattle.set_partitions.specs.Listing.{others_in, block_of, set_partitions}
use Rattle.set_partitions.specs.Inner.Keys.{having, earlier_by}
use Rattle.set_partitions.specs.Inner.Moves.{opens_late, rest_block, moves}
use Rattle.set_partitions.proofs.Facts.{key_at, key_found}
use Rattle.set_partitions.proofs.KeyOrder.{at_key as key-at, key_place, earlier-keys, stays_up, stays_down, new_stays, one_stays, rest_stays}
use Rattle.set_partitions.proofs.Theorem.{others, behind, counted, some_partition}

-- behind those with an earlier key
pub at_key : (e : Edition) (n k c r : ℕ) {y : Bytes} → c ≤ suc k → At (set_partitions e n (others_in k c)) y r → At (set_partitions e (suc n) (suc k)) (y ++ (block_of k c ∷ [])) (earlier_by e (suc k) c (stirling_of n k) (stirling_of n (suc k)) + r)
unfolding set_partitions others_in
at_key e n k c r {y} h a =
    subst (λ s. At (set_partitions e (suc n) (suc k)) (behind k c y) (s + r)) (earlier-keys (λ d. stirling_of n (others_in k d)) (stirling_of n (suc k)) (λ b. refl) e (suc k) c h)
    (at_choice (keys_in_order e (suc k)) (others e n k) (behind k) (λ d. counted e n (others_in k d)) (key_place e (suc k) c) r (key-at e (suc k) c h) a)

pub having-is : (n k c : ℕ) → having c (stirling_of n k) (stirling_of n (suc k)) ≡ stirling_of n (others_in k c)
unfolding having others_in
having-is n k zero = refl
having-is n k (suc b) = refl

-- no model: the one partition that there is
pub none_edge : (e : Edition) (up : Bool) → Edge up (set_partitions e 0 0) []
unfolding set_partitions
none_edge e true = latest record { place = 0; here = refl; final = refl }
none_edge e false = earliest refl

-- no more blocks than models
pub edge_fits : {up : Bool} (e : Edition) (n k : ℕ) {x : Bytes} → Edge up (set_partitions e n k) x → (k ≤ n) × (k ≡ 0 → n ≡ 0)
edge_fits e n k (latest l) = some_partition e n k l.place l.here
edge_fits e n k (earliest f) = some_partition e n k 0 f

-- a model whose key cannot move leaves those up to it at the end: no partition has a key beyond
module _ (e : Edition) (n m b k : ℕ) {x : Bytes} (from : 1 ≤ b) (upto : b ≤ suc m) (all : max m b ≡ suc k) where
  put_behind : (r : ℕ) → At (set_partitions e n m) x r → At (set_partitions e (suc n) (suc k)) (x ++ (b ∷ [])) (earlier_by e (suc k) (key_at m b) (stirling_of n k) (stirling_of n (suc k)) + r)
  put_behind r a =
      let t = key_found m k b from upto all in
      subst (λ d. At (set_partitions e (suc n) (suc k)) (x ++ (d ∷ [])) (earlier_by e (suc k) (key_at m b) (stirling_of n k) (stirling_of n (suc k)) + r)) (sym t.block)
      (at_key e n k (key_at m b) r t.small (subst (λ j. At (set_partitions e n j) x r) t.others a))

  pub edge_kept : (up : Bool) → moves (opens_late e up) up n m b ≡ false → Edge up (set_partitions e n m) x → Edge up (set_partitions e (suc n) (suc k)) (x ++ (b ∷ []))
  edge_kept true q (latest l) =
      let few = (some_partition e n m l.place l.here).0 in
      let t = key_found m k b from upto all in
      let last = stays_up n m b k few from upto all e q in
      let these : having (key_at m b) (stirling_of n k) (stirling_of n (suc k)) ≡ stirling_of n m = having-is n k (key_at m b) ∙ ap (stirling_of n) (sym t.others) in
      let p : ℕ = earlier_by e (suc k) (key_at m b) (stirling_of n k) (stirling_of n (suc k)) + l.place in
      let final : suc p ≡ length (set_partitions e (suc n) (suc k)) = omega (arith, l.final, counted e n m, counted e (suc n) (suc k), stirling_rule n k, last, these) in
      latest record { place = p; here = put_behind l.place l.here; final = final }
  edge_kept false q (earliest f) =
      let first = stays_down n m b k (some_partition e n m 0 f).0 from upto all e q in
      let none : earlier_by e (suc k) (key_at m b) (stirling_of n k) (stirling_of n (suc k)) + 0 ≡ 0 = omega (arith, first) in
      earliest (subst (At (set_partitions e (suc n) (suc k)) (x ++ (b ∷ []))) none (put_behind 0 f))

-- what they are

again_snoc : (j v : ℕ) → replicate j v ++ (v ∷ []) ≡ replicate (suc j) v
again_snoc j v = replicate-append-replicate j 1 v ∙ ap (λ i. replicate i v) (add-one j)

blocks-snoc : (k : ℕ) → range 1 k ++ (suc k ∷ []) ≡ range 1 (suc k)
blocks-snoc k = sym (range_snoc 1 k ∙ rw (suc-add, zero-add))

-- each model in a block of its own
pub each_alone_lem : (e : Edition) (up : Bool) (k : ℕ) → Edge up (set_partitions e k k) (range 1 k)
unfolding range
each_alone_lem e up zero = none_edge e up
each_alone_lem e up (suc k) =
    subst (Edge up (set_partitions e (suc k) (suc k))) (blocks-snoc k)
    (edge_kept e k k (suc k) k (omega arith) (omega arith) (omega arith) up (new_stays (opens_late e up) up k k (λ z. omega arith)) (each_alone_lem e up k))

module _ (e : Edition) (up : Bool) where
  -- the last models open the blocks but the first
  late_edge : opens_late e up ≡ true → (j k : ℕ) → (k ≡ 0 → j ≡ 0) → Edge up (set_partitions e (j + k) k) (replicate j 1 ++ range 1 k)
  unfolding range
  late_edge late zero zero z = none_edge e up
  late_edge late (suc j) zero z = absurd (omega (arith, z refl))
  late_edge late zero (suc zero) z = each_alone_lem e up 1
  late_edge late (suc j) (suc zero) z =
      subst₂ (λ n x. Edge up (set_partitions e n 1) x) (omega arith) (ap (λ l. l ++ (1 ∷ [])) (again_snoc j 1))
      (edge_kept e (j + 1) 1 1 0 (omega arith) (omega arith) (omega arith) up (rw late (one_stays up (j + 1))) (late_edge late j 1 (λ q. absurd (omega arith))))
  late_edge late j (suc (suc k)) z =
      subst₂ (λ n x. Edge up (set_partitions e n (suc (suc k))) x) (sym (add-suc j (suc k)))
      (append_assoc (replicate j 1) (range 1 (suc k)) (suc (suc k) ∷ []) ∙ ap (λ l. replicate j 1 ++ l) (blocks-snoc (suc k)))
      (edge_kept e (j + suc k) (suc k) (suc (suc k)) (suc k) (omega arith) (omega arith) (omega arith) up (new_stays (opens_late e up) up (j + suc k) (suc k) (λ q. absurd (false≢true (sym q ∙ late)))) (late_edge late j (suc k) (λ q. absurd (omega arith))))

  -- the first models open all blocks, and the others are in one
  early_edge : opens_late e up ≡ false → (j k : ℕ) → (k ≡ 0 → j ≡ 0) → Edge up (set_partitions e (k + j) k) (range 1 k ++ replicate j (rest_block up k))
  early_edge early zero k z = rw (add-zero, append-nil) (each_alone_lem e up k)
  early_edge early (suc j) zero z = absurd (omega (arith, z refl))
  early_edge early (suc j) (suc k) z =
      let b : ℕ = rest_block up (suc k) in
      let (from, most) = within up in
      subst₂ (λ n x. Edge up (set_partitions e n (suc k)) x) (sym (add-suc (suc k) j)) (append_assoc (range 1 (suc k)) (replicate j b) (b ∷ []) ∙ ap (λ l. range 1 (suc k) ++ l) (again_snoc j b))
      (edge_kept e (suc k + j) (suc k) b k from (omega arith) (omega arith) up (rw early (rest_stays up (suc k + j) (suc k) most)) (early_edge early j (suc k) (λ q. absurd (omega arith))))
    where
      within : (up : Bool) → (1 ≤ rest_block up (suc k)) × (rest_block up (suc k) ≤ suc k)
      within true = (omega arith, omega arith)
      within false = (omega arith, omega arith)

  -- of n models
  module _ (n k : ℕ) (fits : k ≤ n) (some : k ≡ 0 → n ≡ 0) where
    pub late_end : opens_late e up ≡ true → Edge up (set_partitions e n k) (replicate (n - k) 1 ++ range 1 k)
    late_end late = subst (λ m. Edge up (set_partitions e m k) (replicate (n - k) 1 ++ range 1 k)) (omega arith) (late_edge late (n - k) k (λ z. omega (arith, some z)))

    pub early_end : opens_late e up ≡ false → Edge up (set_partitions e n k) (range 1 k ++ replicate (n - k) (rest_block up k))
    early_end early = subst (λ m. Edge up (set_partitions e m k) (range 1 k ++ replicate (n - k) (rest_block up k))) (omega arith) (early_edge early (n - k) k (λ z. omega (arith, some z)))
