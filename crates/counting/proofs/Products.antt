-- The product of binomials, from the last letter to the first: what is known before a letter, and that the letter keeps it.
-- Assumes nothing.
use Rattle.std.proofs.Common.{◌≡◌, ℕ, ◌+◌, ◌*◌, ◌<◌, ◌≤◌, ◌^◌, List, [], ◌∷◌, ◌++◌, length, refl, sym, ◌∙◌, ap, append_assoc, append-nil, arith}
use Rattle.std.specs.List.{push}
use Rattle.std.proofs.Math.Seq.{drop-append_seam}
use native.Mathlib.Nat.{add_comm, mul_comm}
use Rattle.basics.specs.Limits.{places}
use Rattle.basics.specs.Sums.{total}
use Rattle.basics.proofs.Totals.{total-drop-le}
use Rattle.numbers.specs.Numbers.{choose, multinomial_of}
use Rattle.numbers.proofs.Multinomials.{drop_le, head-le}

-- the words of the letters behind the front: how many there are, and how long they are
pub record Words (cs front : List ℕ) (words size : ℕ) : Type 0 where
  pub behind : List ℕ
  pub whole : cs ≡ front ++ behind
  pub number : words ≡ multinomial_of behind
  pub small : words < 2 ^ 64
  pub long : size ≡ total behind

-- before the first turn there is the empty word
pub no_letter : (cs : List ℕ) → Words cs cs 1 0
unfolding multinomial_of total
no_letter cs = record { behind = []; whole = sym (append-nil cs); number = refl; small = omega arith; long = refl }

total-behind : (front behind : List ℕ) → total behind ≤ total (front ++ behind)
total-behind front behind = rw drop-append_seam at (total-drop-le (front ++ behind) (length front))

multinomial-behind : (front behind : List ℕ) → multinomial_of behind ≤ multinomial_of (front ++ behind)
multinomial-behind front behind = rw drop-append_seam at (drop_le (front ++ behind) (length front))

-- one letter more, with x places
pub record Letter (cs front rest : List ℕ) (words size x : ℕ) : Type 0 where
  pub so_far : Words cs front words size
  pub last : front ≡ push rest x

pub letter : {cs front : List ℕ} {words size x y : ℕ} (rest : List ℕ) → Words cs front words size → front ≡ push rest y → x ≡ y → Letter cs front rest words size x
letter rest w e same = record { so_far = w; last = rw same e }

module _ {cs front rest : List ℕ} {words size x : ℕ} (l : Letter cs front rest words size x) where
  whole : cs ≡ rest ++ (x ∷ l.so_far.behind)
  whole = l.so_far.whole ∙ rw (l.last, append_assoc) refl

  longer : size + x ≡ total (x ∷ l.so_far.behind)
  unfolding total
  longer = omega (arith, l.so_far.long)

  pub short : total cs ≤ places → size + x ≤ places
  short limit = omega (arith, longer, rw (← whole) at (total-behind rest (x ∷ l.so_far.behind)))

  more-words : words * choose (size + x) x ≡ multinomial_of (x ∷ l.so_far.behind)
  unfolding multinomial_of
  more-words = rw (l.so_far.number, ← l.so_far.long, add_comm size x, mul_comm (multinomial_of l.so_far.behind))

  at_most : multinomial_of (x ∷ l.so_far.behind) ≤ multinomial_of cs
  at_most = rw (← whole) at (multinomial-behind rest (x ∷ l.so_far.behind))

  -- what passes 2^64 on the way, a factor or a product, is at most the whole count
  pub factor_stop : ¬ (choose (size + x) x < 2 ^ 64) → ¬ (multinomial_of cs < 2 ^ 64)
  factor_stop large =
      let factor : choose (size + x) x ≤ multinomial_of (x ∷ l.so_far.behind) = rw (l.so_far.long, add_comm _ x) (head-le x l.so_far.behind) in
      λ fits. large (omega (arith, factor, at_most))

  pub product_stop : {ways : ℕ} → ways ≡ choose (size + x) x → ¬ (words * ways < 2 ^ 64) → ¬ (multinomial_of cs < 2 ^ 64)
  product_stop f large = λ fits. large (omega (arith, ap (λ (v : ℕ). words * v) f, more-words, at_most))

  pub letter_more : {ways more : ℕ} → ways ≡ choose (size + x) x → (words * ways < 2 ^ 64) × (more ≡ words * ways) → Words cs rest more (size + x)
  letter_more f g = record { behind = x ∷ l.so_far.behind; whole = whole; number = g.1 ∙ ap (λ (v : ℕ). words * v) f ∙ more-words; small = omega (arith, g.0, g.1); long = longer }

pub all_letters : {cs front : List ℕ} {words size : ℕ} → Words cs front words size → length front ≡ 0 → (multinomial_of cs < 2 ^ 64) × (words ≡ multinomial_of cs)
all_letters {front = []} w none = let e = w.number ∙ ap multinomial_of (sym w.whole) in (omega (arith, w.small, e), e)
all_letters {front = x ∷ l} w none = absurd (omega arith)
