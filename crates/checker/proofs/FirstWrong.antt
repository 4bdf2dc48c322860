-- What the first wrong place says: all before it agree, and it is wrong; where there is none the lists are equal.
-- Assumes nothing.
use mathlib.Core.Path.{◌≡◌, refl, ap, ap₂}
use mathlib.Core.Bool.{Bool, true, false, cond}
use mathlib.Core.Option.{Option, none, some, map, some-injective, none-ne-some, some-ne-none}
use mathlib.Core.List.{List, [], ◌∷◌}
use Prim.Native.Nat.{ℕ, zero, suc, ◌<◌}
use native.Mathlib.Omega.{arith}
use lib.ListN.{get_elem?}
use Rattle.basics.proofs.Bools.{fails}
use Rattle.listings.specs.Bytes.{Bytes, same}
use Rattle.listings.proofs.SameBytes.{same-eq, same_ne, eq-same}
use Rattle.checker.specs.Checking.{WrongAt}
use Rattle.checker.specs.Inner.Differences.{first_wrong}

-- the lists agree at every place below p
abbrev pub AgreeTo : List Bytes → List Bytes → ℕ → Type 0
AgreeTo l es p = (q : ℕ) → q < p → get_elem? es q ≡ get_elem? l q

-- what is found

pub first_at : (l es : List Bytes) (p : ℕ) → AgreeTo l es p → WrongAt l es p → first_wrong l es ≡ some p
unfolding first_wrong WrongAt
first_at [] [] p before wrong = absurd (wrong refl)
first_at [] (e ∷ es) zero before wrong = refl
first_at [] (e ∷ es) (suc p) before wrong = absurd (some-ne-none e (before 0 (omega arith)))
first_at (x ∷ l) [] zero before wrong = refl
first_at (x ∷ l) [] (suc p) before wrong = absurd (none-ne-some x (before 0 (omega arith)))
first_at (x ∷ l) (e ∷ es) zero before wrong =
    rw (fails (same e x) (λ s. wrong (ap {B = Option Bytes} some (same-eq e x s))))
first_at (x ∷ l) (e ∷ es) (suc p) before wrong =
    rw (eq-same (some-injective e x (before 0 (omega arith))), first_at l es p (λ q h. before (suc q) (omega arith)) wrong)

-- and what that tells

pub none_wrong : (l es : List Bytes) → first_wrong l es ≡ none → es ≡ l
unfolding first_wrong
none_wrong [] [] e = refl
none_wrong [] (y ∷ es) e = absurd (some-ne-none 0 e)
none_wrong (x ∷ l) [] e = absurd (some-ne-none 0 e)
none_wrong (x ∷ l) (y ∷ es) e = go (same y x) refl (first_wrong l es) (none_wrong l es) e
  where
    go : (b : Bool) → same y x ≡ b → (o : Option ℕ) → (o ≡ none → es ≡ l) → cond b (map suc o) (some 0) ≡ none → y ∷ es ≡ x ∷ l
    go true s none later e' = ap₂ {C = List Bytes} (λ c z. c ∷ z) (same-eq y x s) (later refl)
    go true s (some p) later e' = absurd (some-ne-none (suc p) e')
    go false s o later e' = absurd (some-ne-none 0 e')

-- a place is the first that is wrong
pub record FirstAt (l es : List Bytes) (p : ℕ) : Type 0 where
  pub before : AgreeTo l es p
  pub wrong : WrongAt l es p

pub some_wrong : (l es : List Bytes) (p : ℕ) → first_wrong l es ≡ some p → FirstAt l es p
unfolding first_wrong WrongAt
some_wrong [] [] p e = absurd (none-ne-some p e)
some_wrong [] (y ∷ es) p e = rw (← some-injective 0 p e) record { before = λ q h. absurd (omega arith); wrong = λ z. some-ne-none y z }
some_wrong (x ∷ l) [] p e = rw (← some-injective 0 p e) record { before = λ q h. absurd (omega arith); wrong = λ z. none-ne-some x z }
some_wrong (x ∷ l) (y ∷ es) p e = go (same y x) refl (first_wrong l es) (some_wrong l es) p e
  where
    go : (b : Bool) → same y x ≡ b → (o : Option ℕ) → ((r : ℕ) → o ≡ some r → FirstAt l es r) → (r : ℕ) → cond b (map suc o) (some 0) ≡ some r → FirstAt (x ∷ l) (y ∷ es) r
    go false s o later r e' =
        rw (← some-injective 0 r e') record { before = λ q h. absurd (omega arith); wrong = λ z. same_ne y x s (some-injective y x z) }
    go true s none later r e' = absurd (none-ne-some r e')
    go true s (some q) later r e' = rw (← some-injective (suc q) r e') record { before = before; wrong = (later q refl).wrong }
      where
        before : (i : ℕ) → i < suc q → get_elem? (y ∷ es) i ≡ get_elem? (x ∷ l) i
        before zero h = ap {B = Option Bytes} some (same-eq y x s)
        before (suc i) h = (later q refl).before i (omega arith)
