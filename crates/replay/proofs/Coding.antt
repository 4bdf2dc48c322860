-- A code is read by its number, and a list of codes by its first.
-- Assumes nothing.
use mathlib.Core.Path.{◌≡◌, refl, ◌∙◌, ap}
use mathlib.Core.Bool.{true, false}
use mathlib.Core.List.{List}
use Prim.Native.Nat.{ℕ, zero, suc, ◌≤◌, ◌<◌}
use lib.ListN.{length, get_or, drop, drop_of_length-le}
use lib.Seq.{drop-cons}
use borrow.Author.Tests.{le-leb, lt-leb}
use Rattle.listings.specs.Bytes.{Bytes}
use Rattle.listings.specs.Calls.{Call, FIRST, Answer, Said}
use Rattle.families.specs.declared.Family.{Family}
use Rattle.families.specs.Table.{Lent}
use Rattle.families.specs.Calls.{respond}
use Rattle.families.specs.Codes.{code_of, Coded, coded}
use Rattle.replay.specs.Codes.{call_of, known}

-- a code that is none of 2 to 5 is read as FIRST
pub otherwise_first : (code r : ℕ) → (code ≡ 2 → ⊥) → (code ≡ 3 → ⊥) → (code ≡ 4 → ⊥) → (code ≡ 5 → ⊥) → call_of code r ≡ FIRST
unfolding call_of
otherwise_first zero r a b c d = refl
otherwise_first (suc zero) r a b c d = refl
otherwise_first (suc (suc zero)) r a b c d = absurd (a refl)
otherwise_first (suc (suc (suc zero))) r a b c d = absurd (b refl)
otherwise_first (suc (suc (suc (suc zero)))) r a b c d = absurd (c refl)
otherwise_first (suc (suc (suc (suc (suc zero))))) r a b c d = absurd (d refl)
otherwise_first (suc (suc (suc (suc (suc (suc n)))))) r a b c d = refl

-- a call's equation, with the answer's code in its place
pub coding : {c call : Call} (f : Family) (b : Lent) (x : Bytes) {y : Bytes} (a : Answer) {code : ℕ} → c ≡ call → ◌≡◌ {A = Said} (a, y) (respond call f b x) → code ≡ code_of a
    → ◌≡◌ {A = Coded} (code, y) (coded (respond c f b x))
coding f b x {y} a same said ec = rw same (ap (λ (n : ℕ). (n, y)) ec ∙ ap (λ (s : Said). coded s) said)

-- whether the codes from the i-th on are known depends on the i-th
module _ (cs : List ℕ) (i : ℕ) (inside : i < length cs) where
  pub low : get_or cs i 0 < 1 → known (drop i cs) ≡ false
  unfolding known
  low h = rw (drop-cons cs i 0 inside, lt-leb 1 (get_or cs i 0) h)

  pub high : 1 ≤ get_or cs i 0 → 5 < get_or cs i 0 → known (drop i cs) ≡ false
  unfolding known
  high l h = rw (drop-cons cs i 0 inside, le-leb 1 (get_or cs i 0) l, lt-leb (get_or cs i 0) 5 h)

  pub known_on : 1 ≤ get_or cs i 0 → get_or cs i 0 ≤ 5 → known (drop i cs) ≡ known (drop (suc i) cs)
  unfolding known
  known_on l h = rw (drop-cons cs i 0 inside, le-leb 1 (get_or cs i 0) l, le-leb (get_or cs i 0) 5 h)

-- and past the last there is none
pub known_end : (cs : List ℕ) (i : ℕ) → length cs ≤ i → known (drop i cs) ≡ true
unfolding known
known_end cs i h = rw (drop_of_length-le cs {i = i} h)
