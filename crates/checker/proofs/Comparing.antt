-- The loop of a check: an object of the listing beside the entries, all of which agree before its place. Each way out is the first wrong place, or none.
-- Assumes nothing.
use mathlib.Core.Path.{◌≡◌, refl, sym, ◌∙◌, ap}
use mathlib.Core.Bool.{true, false, cond}
use mathlib.Core.Option.{Option, none, some, some-injective, none-ne-some, some-ne-none}
use mathlib.Core.List.{List}
use Prim.Native.Nat.{ℕ, suc, ◌*◌, ◌≤◌, ◌<◌}
use native.Mathlib.Decide.{dec_lt}
use native.Mathlib.Omega.{arith}
use lib.Dec.{eqb}
use lib.ListN.{length, take, drop}
use borrow.Author.Tests.{eq-eqb, ne_eqb}
use Rattle.listings.specs.Bytes.{Bytes, same}
use Rattle.listings.specs.Places.{At, First}
use Rattle.listings.proofs.SameBytes.{same-eq, same_ne}
use Rattle.listings.proofs.Standing.{get_elem_none}
use Rattle.checker.specs.Checking.{cut_into, WrongAt}
use Rattle.checker.specs.Inner.Differences.{first_wrong}
use Rattle.checker.proofs.Entries.{many, entry_at}
use Rattle.checker.proofs.FirstWrong.{AgreeTo, first_at, some_wrong}

module _ (l : List Bytes) (m long : ℕ) (s : Bytes) where
  abbrev pub entries : List Bytes
  entries = cut_into m long s

  -- the entry at a place
  abbrev pub entry : ℕ → Bytes
  entry p = take long (drop (p * long) s)

  -- x stands at place p of the listing, and all entries before it are right
  pub record Standing (p : ℕ) (x : Bytes) : Type 0 where
    pub here : At l x p
    pub agree : AgreeTo l entries p

  pub start : {x : Bytes} → First l x → Standing 0 x
  start h = record { here = h; agree = λ q k. absurd (omega arith) }

  pub differs : {p : ℕ} {x : Bytes} → Standing p x → p < m → same (entry p) x ≡ false → first_wrong l entries ≡ some p
  unfolding WrongAt
  differs {p} {x} st inside unlike =
      first_at l entries p st.agree (λ e. same_ne (entry p) x unlike (some-injective (entry p) x (sym (entry_at m long s p inside) ∙ e ∙ st.here)))

  pub agrees : {p : ℕ} {x : Bytes} → Standing p x → p < m → same (entry p) x ≡ true → AgreeTo l entries (suc p)
  agrees {p} {x} st inside alike q h =
      elim (dec_lt q p) [
        | yes lower ↦ st.agree q lower
        | no other ↦
            let last : q ≡ p = omega arith in
            rw last (entry_at m long s p inside ∙ ap {B = Option Bytes} some (same-eq (entry p) x alike) ∙ sym st.here)
      ]

  pub on : {p : ℕ} {y : Bytes} → AgreeTo l entries p → At l y p → Standing p y
  on agree h = record { here = h; agree = agree }

  -- behind the last object: no entry is left, or one is

  pub whole : {p : ℕ} → AgreeTo l entries p → p ≡ length l → p ≡ m → first_wrong l entries ≡ none
  unfolding WrongAt
  whole {p} agree all last = go (first_wrong l entries) (λ q e. (some_wrong l entries q e).wrong)
    where
      go : (o : Option ℕ) → ((q : ℕ) → o ≡ some q → WrongAt l entries q) → o ≡ none
      go none w = refl
      go (some q) w =
          absurd (elim (dec_lt q p) [
            | yes lower ↦ w q refl (agree q lower)
            | no beyond ↦ w q refl (get_elem_none entries q (omega (arith, many m long s)) ∙ sym (get_elem_none l q (omega arith)))
          ])

  pub longer : {p : ℕ} → AgreeTo l entries p → p ≡ length l → p < m → first_wrong l entries ≡ some p
  unfolding WrongAt
  longer {p} agree all inside =
      first_at l entries p agree (λ e. some-ne-none (entry p) (sym (entry_at m long s p inside) ∙ e ∙ get_elem_none l p (omega arith)))

  pub ended : {p : ℕ} → AgreeTo l entries p → p ≡ length l → p ≤ m → cond (eqb p m) none (some p) ≡ first_wrong l entries
  ended {p} agree all inside =
      elim (dec_lt p m) [
        | yes more ↦ rw (ne_eqb p m (λ e. omega arith)) (sym (longer agree all more))
        | no end ↦ let last : p ≡ m = omega arith in rw (eq-eqb p m last) (sym (whole agree all last))
      ]

  -- behind the last entry there is an object
  pub shorter : {p : ℕ} {x : Bytes} → Standing p x → p ≡ m → first_wrong l entries ≡ some p
  unfolding WrongAt
  shorter {p} {x} st last =
      first_at l entries p st.agree (λ e. none-ne-some x (sym (get_elem_none entries p (omega (arith, many m long s))) ∙ e ∙ st.here))
