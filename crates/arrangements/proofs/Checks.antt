-- What C is told of a check: 0 exactly for the full listing, and a question that is missed by its number, with the lent place as it was.
-- Assumes nothing.
use mathlib.Core.Path.{◌≡◌, sym, ◌∙◌, ap}
use mathlib.Core.Logic.{◌↔◌, ⊎_elim}
use mathlib.Core.Option.{none, some, some-injective, none-ne-some}
use Prim.Native.Nat.{ℕ}
use native.Mathlib.Omega.{arith}
use lib.ListN.{length}
use Rattle.listings.specs.Bytes.{Bytes}
use Rattle.families.specs.declared.Family.{Family}
use Rattle.families.specs.Table.{Lent}
use Rattle.families.specs.Families.{listing}
use Rattle.std.specs.Prelude.{Ok, Err}
use Rattle.checker.specs.declared.CheckError.{CheckError}
use Rattle.checker.specs.Checking.{entries_of, check_refusal, Checked, refused_by, Says}
use Rattle.checker.proofs.CheckLaws.{accepts_exactly, refuses_exactly, check_numbered}
use Rattle.arrangements.specs.Told.{Valued, check_told, ToldCheck}

module _ (f : Family) (b : Lent) (m : ℕ) (s : Bytes) (v : ℕ) {t : Valued} (h : ToldCheck f b m s v t) where
  pub check_refused : {q : ℕ} → check_refusal f b m (length s) ≡ some q → t ≡ (q, v)
  check_refused {q} e = h.told ∙ go h.answer ((refuses_exactly f b m s h.answer h.says q).1 e)
    where
      go : (a : Checked) → refused_by a ≡ some q → check_told a v ≡ (q, v)
      go (Ok u) e = absurd (none-ne-some q e)
      go (Err (CheckError.Wrong p)) e = absurd (none-ne-some q e)
      go (Err CheckError.Entries) e = ap (λ (n : ℕ). (n, v)) (some-injective 12 q e)
      go (Err (CheckError.Refused p)) e = ap (λ (n : ℕ). (n, v)) (some-injective _ q e)

  zero : (a : Checked) → Says f b m s a → (check_told a v).0 ≡ 0 → (check_refusal f b m (length s) ≡ none) × (entries_of f b m s ≡ listing f b)
  unfolding Says
  zero (Ok u) says e = says
  zero (Err (CheckError.Wrong p)) says e = absurd (omega arith)
  zero (Err CheckError.Entries) says e = absurd (omega arith)
  zero (Err (CheckError.Refused q)) says e = absurd (⊎_elim (λ n. omega (arith, n.from)) (λ n. omega arith) (check_numbered f b m (length s) says))

  pub check_accepted : (t.0 ≡ 0) ↔ ((check_refusal f b m (length s) ≡ none) × (entries_of f b m s ≡ listing f b))
  check_accepted = (
    (λ e. zero h.answer h.says (sym (ap (λ (t : Valued). t.0) h.told) ∙ e)),
    (λ e. ap (λ (t : Valued). t.0) (h.told ∙ ap (λ (a : Checked). check_told a v) ((accepts_exactly f b m s h.says).1 e))),
  )
