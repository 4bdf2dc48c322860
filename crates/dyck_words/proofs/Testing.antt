-- The readers and the test by heights agree on any bytes: what a byte does to the test, and how what a reader passed adds up.
-- Assumes nothing.
use mathlib.Core.Path.{◌≡◌, refl, sym, ◌∙◌, ap}
use mathlib.Core.Logic.{◌⊎◌, inl, inr}
use mathlib.Core.Bool.{false, and-false}
use mathlib.Core.List.{◌∷◌}
use Prim.Native.Nat.{ℕ, zero, suc, ◌+◌, ◌*◌, ◌≤◌, ◌<◌}
use native.Mathlib.Numerals.{add-one}
use native.Mathlib.Nat.{eq-or-lt_of_le}
use native.Mathlib.Omega.{arith}
use lib.Dec.{eqb}
use lib.ListN.{length, get_or, drop, drop_of_length-le}
use lib.Seq.{drop-cons, drop-length}
use borrow.Author.Tests.{eq-eqb, ne_eqb}
use Rattle.std.proofs.Common.{Option, Some, None}
use Rattle.std.specs.Option.{option_eq}
use Rattle.listings.specs.Bytes.{Bytes}
use Rattle.dyck_words.specs.Objects.{balanced_from, is_dyck_word}
use Rattle.dyck_words.specs.Inner.Reading.{Passed, Fails, RowRead, BranchRead}

-- what one byte does to the test

neither : (h b : ℕ) (x : Bytes) → (b ≡ 0 → ⊥) → (b ≡ 1 → ⊥) → balanced_from h (b ∷ x) ≡ false
unfolding balanced_from
neither h zero x zeros ones = absurd (zeros refl)
neither h (suc zero) x zeros ones = absurd (ones refl)
neither h (suc (suc b)) x zeros ones = refl

down : (b : ℕ) (x : Bytes) → (b ≡ 1 → ⊥) → balanced_from 0 (b ∷ x) ≡ false
unfolding balanced_from
down zero x ones = refl
down (suc b) x ones = neither 0 (suc b) x (λ e. omega arith) ones

module _ (x : Bytes) (i : ℕ) (within : i < length x) where
  -- a 1 leads up
  up_at : get_or x i 0 ≡ 1 → (h : ℕ) → balanced_from h (drop i x) ≡ balanced_from (suc h) (drop (i + 1) x)
  unfolding balanced_from
  up_at e h = rw (drop-cons x i 0 within, e, add-one)

  -- a 0 leads down
  down_at : get_or x i 0 ≡ 0 → (h : ℕ) → balanced_from (suc h) (drop i x) ≡ balanced_from h (drop (i + 1) x)
  unfolding balanced_from
  down_at e h = rw (drop-cons x i 0 within, e, add-one)

-- a branch, which begins with a 1

module _ (x : Bytes) (i : ℕ) (one : (i < length x) × (get_or x i 0 ≡ 1)) where
  behind_one : (h : ℕ) → balanced_from h (drop i x) ≡ balanced_from (suc h) (drop (i + 1) x)
  behind_one = up_at x i one.0 one.1

  pub branch_fails : Fails x (i + 1) → Fails x i
  branch_fails fails h = behind_one h ∙ fails (suc h)

  -- where its row ends no 0 stands: the bytes end
  pub branch_open : {e : ℕ} → Passed x (i + 1) e → length x ≤ e → Fails x i
  unfolding balanced_from
  branch_open p ends h = behind_one h ∙ p.same (suc h) ∙ ap (balanced_from (suc h)) (drop_of_length-le x ends) ∙ ne_eqb (suc h) 0 (λ e. omega arith)

  -- or another byte stands there
  pub branch_stuck : {e : ℕ} → RowRead x (i + 1) (Some e) → e < length x → (get_or x e 0 ≡ 0 → ⊥) → Fails x i
  branch_stuck {e} p inside zeros h =
      behind_one h ∙ p.0.same (suc h) ∙ ap (balanced_from (suc h)) (drop-cons x e 0 inside) ∙ neither (suc h) (get_or x e 0) (drop (suc e) x) zeros p.1

  -- where its row ends a 0 stands
  pub branch_closes : {e : ℕ} → Passed x (i + 1) e → e < length x → get_or x e 0 ≡ 0 → BranchRead x i (Some (e + 1))
  branch_closes {e} p inside zeros =
      (record { onward = omega (arith, p.onward); inside = omega arith; same = λ h. behind_one h ∙ p.same (suc h) ∙ down_at x e inside zeros h }, omega (arith, p.onward))

pub ruleset branch_reads = (branch_fails, branch_open, branch_stuck, branch_closes)

-- the test

pub wrong_length : (n : ℕ) (x : Bytes) → (length x ≡ 2 * n → ⊥) → eqb (length x) (2 * n) ≡ is_dyck_word n x
unfolding is_dyck_word
wrong_length n x other = rw (ne_eqb (length x) (2 * n) other)

-- the row from the start has to come to the end
pub row_tells : (n : ℕ) (x : Bytes) (o : Option ℕ) → length x ≡ 2 * n → RowRead x 0 o → option_eq eqb o (Some (length x)) ≡ is_dyck_word n x
unfolding is_dyck_word balanced_from
row_tells n x None long fails = rw (fails 0) (sym (and-false (eqb (length x) (2 * n))))
row_tells n x (Some e) long p = rw (eq-eqb (length x) (2 * n) long, p.0.same 0) (by_end (eq-or-lt_of_le p.0.inside))
  where
    by_end : (e ≡ length x) ⊎ (e < length x) → eqb e (length x) ≡ balanced_from 0 (drop e x)
    by_end (inl ends) = rw (eq-eqb e (length x) ends, ends, drop-length)
    by_end (inr inside) = rw (ne_eqb e (length x) (omega arith), drop-cons x e 0 inside) (sym (down (get_or x e 0) (drop (suc e) x) p.1))
