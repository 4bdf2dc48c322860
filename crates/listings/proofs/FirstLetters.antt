-- Words listed by their first letter, over states: which letters may stand first, and what state each leaves. Such a list is the listing in the
-- order by the first place that differs. Serves every kind in dictionary order. Assumes nothing.
use mathlib.Core.Path.{◌≡◌, refl, ap}
use mathlib.Core.Bool.{Bool, true}
use mathlib.Core.List.{List, [], ◌∷◌, Memᴰ}
use Prim.Native.Nat.{ℕ, zero, suc}
use native.Mathlib.Omega.{arith}
use lib.Dec.{ltb}
use lib.ListN.{length}
use borrow.Author.Tests.{ltb-true}
use Rattle.listings.specs.Bytes.{Bytes}
use Rattle.listings.specs.Choices.{by_choice}
use Rattle.listings.specs.Orders.{lex_before}
use Rattle.listings.specs.Listings.{Ascending, StrictTotal, Listing}
use Rattle.listings.proofs.ChoiceRules.{one_rule, Taken, choice_rule}
use Rattle.listings.proofs.OrderFacts.{lex_strict, lex_less, lex_tie}

-- what a kind shows of its words of m letters from a state, in the states that it meets; choice c is written as `letter c`
pub record Spelled {S : Type 0} (words : ℕ → S → List Bytes) (choices : ℕ → S → List ℕ) (letter : ℕ → ℕ) (next : S → ℕ → S) (Good : ℕ → S → Type 0) (object : ℕ → S → Bytes → Bool) : Type 0 where
  pub none : (s : S) → words 0 s ≡ [] ∷ []
  pub some : (m : ℕ) (s : S) → words (suc m) s ≡ by_choice (choices m s) (λ c. words m (next s c)) (λ c x. letter c ∷ x)
  pub sized : (m : ℕ) (s : S) (x : Bytes) → Good m s → object m s x ≡ true → length x ≡ m
  pub ends : (s : S) → Good 0 s → object 0 s [] ≡ true
  pub onward : (m : ℕ) (s : S) (c : ℕ) → Good (suc m) s → Memᴰ c (choices m s) → Good m (next s c)
  pub rising : (m : ℕ) (s : S) → Ascending (λ c d. ltb (letter c) (letter d)) (choices m s)
  pub off : (m : ℕ) (s : S) (a : ℕ) (x : Bytes) → Good (suc m) s → object (suc m) s (a ∷ x) ≡ true → (c : ℕ) × (letter c ≡ a) × Memᴰ c (choices m s) × (object m (next s c) x ≡ true)
  pub on : (m : ℕ) (s : S) (c : ℕ) (x : Bytes) → Good (suc m) s → Memᴰ c (choices m s) → object m (next s c) x ≡ true → object (suc m) s (letter c ∷ x) ≡ true

module _ {S : Type 0} {words : ℕ → S → List Bytes} {choices : ℕ → S → List ℕ} {letter : ℕ → ℕ} {next : S → ℕ → S} {Good : ℕ → S → Type 0} {object : ℕ → S → Bytes → Bool}
    (kind : Spelled words choices letter next Good object) where
  order : (m : ℕ) (s : S) → Good m s → StrictTotal (object m s) lex_before
  order m s g = lex_strict (object m s) m (λ x. kind.sized m s x g)

  alone : (s : S) → Good 0 s → (y : Bytes) → object 0 s y ≡ true → y ≡ []
  alone s g [] o = refl
  alone s g (a ∷ y) o = absurd (omega (arith, kind.sized 0 s (a ∷ y) g o))

  taken : (m : ℕ) (s : S) → Good (suc m) s → (y : Bytes) → object (suc m) s y ≡ true → Taken (choices m s) (λ c x. letter c ∷ x) (λ c. object m (next s c)) y
  taken m s g [] o = absurd (omega (arith, kind.sized (suc m) s [] g o))
  taken m s g (a ∷ x) o = let (c, e, k, rest) = kind.off m s a x g o in record { choice = c; listed = k; left = x; object = rest; whole = ap (λ b. b ∷ x) e }

  pub spelled : (m : ℕ) (s : S) → Good m s → Listing (object m s) lex_before (words m s)
  spelled zero s g = rw (kind.none s) (one_rule (order 0 s g) [] (kind.ends s g) (alone s g))
  spelled (suc m) s g = rw (kind.some m s) (choice_rule (λ c. words m (next s c)) (λ c x. letter c ∷ x) (record {
    object_of = λ c. object m (next s c);
    lt_of = λ c. lex_before;
    ltc = λ c d. ltb (letter c) (letter d);
    order = order (suc m) s g;
    rising = kind.rising m s;
    parts = λ c k. spelled m (next s c) (kind.onward m s c g k);
    off = taken m s g;
    on = λ c x k o. kind.on m s c x g k o;
    less = λ c d x y k l h o p. lex_less (letter c) (letter d) x y (ltb-true (letter c) (letter d) h);
    tie = λ c x y k o p h. lex_tie (letter c) (letter c) x y refl h;
  }))
