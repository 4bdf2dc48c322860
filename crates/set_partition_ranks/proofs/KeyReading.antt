-- The keys of some models, read from the front.
-- Assumes nothing.
use mathlib.Core.Path.{◌≡◌}
use mathlib.Core.List.{◌∷◌, ◌++◌, append_assoc, append-nil}
use Prim.Native.Nat.{ℕ, suc, ◌+◌, ◌<◌, max}
use native.Mathlib.Numerals.{add-one}
use native.Mathlib.Omega.{arith}
use lib.ListN.{length, take, drop, set, get_or, drop_of_length-le}
use lib.Seq.{drop-cons, take-suc-set}
use Rattle.listings.specs.Bytes.{Bytes}
use Rattle.set_partitions.specs.Objects.{keys}
use Rattle.set_partitions.proofs.Facts.{key_at}

-- the model at place i, with u as the highest block before it; its key is stored behind those of the models in front

module _ (u i : ℕ) (x ks : Bytes) where
  key_read : i < length x → keys u (drop i x) ≡ key_at u (get_or x i 0) ∷ keys (max u (get_or x i 0)) (drop (suc i) x)
  unfolding keys
  key_read h = rw (drop-cons x i 0 h)

  pub key_stored : i < length x → i < length ks → take i ks ++ keys u (drop i x) ≡ take (i + 1) (set ks i (key_at u (get_or x i 0))) ++ keys (max u (get_or x i 0)) (drop (i + 1) x)
  key_stored h g = rw (add-one, take-suc-set ks i (key_at u (get_or x i 0)) g, append_assoc, key_read h)

  pub all_stored : length x ≡ i → take (length x) ks ≡ take i ks ++ keys u (drop i x)
  unfolding keys
  all_stored e = rw (e, drop_of_length-le x {i = i} (omega arith), append-nil)
