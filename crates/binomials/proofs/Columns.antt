-- What the last columns say of a coefficient, as it is asked in code.
-- Assumes nothing.
use Rattle.std.proofs.Common.{◌≡◌, ℕ, ◌-◌, ◌^◌, ◌<◌, ◌≤◌, Bool, true, ltb, leb, get_or, ◌∙◌, le-ltb, lt-ltb, le-leb}
use borrow.Author.Tests.{lt-leb}
use Rattle.basics.specs.Limits.{places}
use Rattle.numbers.specs.Numbers.{choose}
use Rattle.binomials.specs.declared.factorials.TheConstants.{LAST_COLUMNS}
use Rattle.binomials.proofs.Tested.{within, made_of_lem}

module _ (n k : ℕ) (h : n ≤ places) (b : k ≤ n) where
  said : {r : Bool} → r ≡ within n k → r ≡ ltb (choose n k) (2 ^ 64)
  said e = e ∙ (made_of_lem n k h b).says

  pub early : n < 68 → true ≡ ltb (choose n k) (2 ^ 64)
  unfolding within
  early l = said (rw (lt-ltb n 68))

  pub on_the_left : {last : ℕ} → 68 ≤ n → last ≡ get_or LAST_COLUMNS (n - 68) 0 → k ≤ last → leb k last ≡ ltb (choose n k) (2 ^ 64)
  unfolding within
  on_the_left {last} l e i = rw (le-leb k last i) (said (rw (le-ltb n 68, ← e, le-leb k last)))

  pub on_the_right : {last : ℕ} → 68 ≤ n → last ≡ get_or LAST_COLUMNS (n - 68) 0 → last < k → leb (n - k) last ≡ ltb (choose n k) (2 ^ 64)
  unfolding within
  on_the_right l e i = said (rw (le-ltb n 68, ← e, lt-leb k _))
