-- In either edition, the list of the set partitions of n models into k blocks is their listing, its length is the Stirling number, and when it is empty.
-- Assumes nothing.
use mathlib.Core.Path.{◌≡◌, refl, sym, ◌∙◌, ap, subst}
use mathlib.Core.Bool.{true}
use mathlib.Core.List.{List, [], ◌∷◌, ◌++◌}
use Prim.Native.Nat.{ℕ, zero, suc, ◌≤◌, ◌<◌}
use native.Mathlib.Decide.{dec_lt}
use native.Mathlib.Omega.{arith}
use lib.ListN.{length}
use Rattle.numbers.specs.Numbers.{stirling_of}
use Rattle.numbers.proofs.Laws.{stirling_none, stirling_zero}
use Rattle.listings.specs.Bytes.{Bytes}
use Rattle.listings.specs.Listings.{Listing}
use Rattle.listings.specs.Places.{At}
use Rattle.listings.proofs.ChoiceRules.{none_rule, one_rule, Taken, choice_rule, counted_choice}
use Rattle.listings.proofs.PlaceRules.{at_below}
use Rattle.set_partitions.specs.KeyOrder.{Edition, key_before, keys_in_order}
use Rattle.set_partitions.specs.Objects.{opens, is_set_partition, set_partition_before}
use Rattle.set_partitions.specs.Listing.{others_in, block_of, set_partitions}
use Rattle.set_partitions.proofs.Facts.{partition_cases, partition_makes, partition_none, partition_ends, put_on, take_off}
use Rattle.set_partitions.proofs.KeyOrder.{keys_ascend, key_listed, listed_key, all_keys, before_less, before_tie, before_strict}

pub long : (n k : ℕ) (x : Bytes) → is_set_partition n k x ≡ true → length x ≡ n
long n k x e = (partition_cases n k x e).0

-- by the key c of the last model: the others, and the last model behind them

abbrev pub others : Edition → ℕ → ℕ → ℕ → List Bytes
others e n k c = set_partitions e n (others_in k c)

abbrev pub behind : ℕ → ℕ → Bytes → Bytes
behind k c x = x ++ (block_of k c ∷ [])

off : (e : Edition) (n k : ℕ) (y : Bytes) → is_set_partition (suc n) (suc k) y ≡ true → Taken (keys_in_order e (suc k)) (behind k) (λ c. is_set_partition n (others_in k c)) y
off e n k y o =
    let f = partition_ends n (suc k) y o in
    let t = take_off n k f.block f.front (subst (λ z. is_set_partition (suc n) (suc k) z ≡ true) f.whole o) in
    record { choice = t.key; listed = key_listed e (suc k) t.key t.small; left = f.front; object = t.front; whole = ap (λ b. f.front ++ (b ∷ [])) (sym t.block) ∙ sym f.whole }

pub lists : (e : Edition) (n k : ℕ) → Listing (is_set_partition n k) (set_partition_before e) (set_partitions e n k)
unfolding set_partitions opens
lists e zero zero = one_rule (before_strict e 0 0) [] (partition_makes 0 0 [] refl refl) (λ y o. (partition_none 0 y o).0)
lists e zero (suc k) = none_rule (before_strict e 0 (suc k)) (λ y o. omega (arith, (partition_none (suc k) y o).1))
lists e (suc n) zero = none_rule (before_strict e (suc n) 0) (λ y o. omega (arith, (partition_ends n 0 y o).some))
lists e (suc n) (suc k) =
    choice_rule (others e n k) (behind k)
    (record {
      object_of = λ c. is_set_partition n (others_in k c);
      lt_of = λ c. set_partition_before e;
      ltc = key_before e;
      order = before_strict e (suc n) (suc k);
      rising = keys_ascend e (suc k);
      parts = λ c m. lists e n (others_in k c);
      off = off e n k;
      on = λ c x m. put_on n k c x (listed_key e (suc k) c m);
      less = λ c d x y i j h o p. before_less e n k c d x y (listed_key e (suc k) c i) (listed_key e (suc k) d j) o p h;
      tie = λ c x y i o p. before_tie e n k c c x y (listed_key e (suc k) c i) (listed_key e (suc k) c i) o p refl;
    })

-- both editions have the same number
pub counted : (e : Edition) (n k : ℕ) → length (set_partitions e n k) ≡ stirling_of n k
unfolding set_partitions stirling_of others_in
counted e zero zero = refl
counted e zero (suc k) = refl
counted e (suc n) zero = refl
counted e (suc n) (suc k) =
    counted_choice (keys_in_order e (suc k)) (others e n k) (behind k) (λ c m. counted e n (others_in k c))
    ∙ all_keys (λ c. stirling_of n (others_in k c)) (stirling_of n (suc k)) (λ b. refl) e (suc k)

-- where there is a partition, there are no more blocks than models, and no block only for no model
pub some_partition : (e : Edition) (n k p : ℕ) {x : Bytes} → At (set_partitions e n k) x p → (k ≤ n) × (k ≡ 0 → n ≡ 0)
some_partition e n k p a = (
  elim (dec_lt n k) [ yes h ↦ absurd (omega (arith, some, stirling_none n k h)) | no h ↦ omega arith ],
  λ z. elim (dec_lt 0 n) [ yes h ↦ absurd (omega (arith, some, ap (stirling_of n) z, stirling_zero n h)) | no h ↦ omega arith ],
)
  where
    some : 0 < stirling_of n k
    some = omega (arith, at_below (set_partitions e n k) p a, counted e n k)
