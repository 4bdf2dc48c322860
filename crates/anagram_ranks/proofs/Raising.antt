-- Letters raised from one on, by which it becomes free: where it has no count, the words are those of the other letters, raised.
-- Assumes nothing.
use mathlib.Core.Path.{◌≡◌, refl, sym, ◌∙◌, ap}
use mathlib.Core.Bool.{Bool, true, false}
use mathlib.Core.List.{List, [], ◌∷◌, map, flat_map, map-append, map-map}
use Prim.Native.Nat.{ℕ, zero, suc, ◌+◌, ◌≤◌, ◌<◌}
use native.Mathlib.Nat.{add-zero, suc-add}
use native.Mathlib.Numerals.{add-one}
use native.Mathlib.Omega.{arith}
use lib.Dec.{leb, leb-suc-suc}
use borrow.Author.Tests.{le-leb, lt-leb}
use Rattle.std.specs.Int.{from_bool}
use Rattle.numbers.specs.Numbers.{one_less, letters_from}
use Rattle.listings.specs.Places.{tick}
use Rattle.anagrams.specs.Listing.{words}
use Rattle.anagram_ranks.specs.Inner.Raised.{raised}

-- which letters go up

pub raised-up : (a b : ℕ) → a ≤ b → raised a b ≡ b + 1
unfolding raised
raised-up a b h = rw (le-leb a b h)

pub raised-not : (a b : ℕ) → b < a → raised a b ≡ b
unfolding raised
raised-not a b h = rw (lt-leb a b h, add-zero)

-- by the test as a number
pub raised_is : (a b n : ℕ) → n ≡ from_bool (leb a b) → b + n ≡ raised a b
unfolding raised
raised_is a b n e = ap (λ k. b + k) (e ∙ ticked (leb a b))
  where
    ticked : (t : Bool) → from_bool t ≡ tick t
    ticked true = refl
    ticked false = refl

raised-suc : (a b : ℕ) → raised (suc a) (suc b) ≡ suc (raised a b)
unfolding raised
raised-suc a b = rw (leb-suc-suc, suc-add)

-- the counts with a letter put in at i that is not left
unfoldable pub put_zero : ℕ → List ℕ → List ℕ
put_zero zero cs = 0 ∷ cs
put_zero (suc i) [] = []
put_zero (suc i) (c ∷ cs) = c ∷ put_zero i cs

one_less-put : (i : ℕ) (cs : List ℕ) (j : ℕ) → one_less (put_zero i cs) (raised i j) ≡ put_zero i (one_less cs j)
unfolding one_less put_zero
one_less-put zero cs j = rw (raised-up 0 j (omega arith), add-one)
one_less-put (suc i) [] j = refl
one_less-put (suc i) (c ∷ cs) zero = rw (raised-not (suc i) 0 (omega arith))
one_less-put (suc i) (c ∷ cs) (suc j) = rw (raised-suc i j, one_less-put i cs j)

letters_up : (a k : ℕ) (cs : List ℕ) → a ≤ k → letters_from (suc k) cs ≡ map (raised a) (letters_from k cs)
unfolding letters_from
letters_up a k [] h = refl
letters_up a k (zero ∷ cs) h = letters_up a (suc k) cs (omega arith)
letters_up a k (suc c ∷ cs) h = rw (raised-up a k h, add-one, letters_up a (suc k) cs (omega arith))

letters_put : (i a k : ℕ) (cs : List ℕ) → a ≡ k + i → letters_from k (put_zero i cs) ≡ map (raised a) (letters_from k cs)
unfolding letters_from put_zero
letters_put zero a k cs e = letters_up a k cs (omega arith)
letters_put (suc i) a k [] e = refl
letters_put (suc i) a k (zero ∷ cs) e = letters_put i a (suc k) cs (omega arith)
letters_put (suc i) a k (suc c ∷ cs) e = rw (raised-not a k (omega arith), letters_put i a (suc k) cs (omega arith))

-- a map past choices
map_choices : {A B : Type 0} (f : ℕ → ℕ) (s : A → B) (g : ℕ → List B) (h : ℕ → List A) → ((i : ℕ) → g (f i) ≡ map s (h i)) → (l : List ℕ) → flat_map g (map f l) ≡ map s (flat_map h l)
unfolding flat_map
map_choices f s g h e [] = refl
map_choices f s g h e (i ∷ l) = rw (e i, map_choices f s g h e l, map-append)

-- so the words are those of the other letters, raised
pub words-put : (t i : ℕ) (cs : List ℕ) → words t (put_zero i cs) ≡ map (map (raised (suc i))) (words t cs)
unfolding words
words-put zero i cs = refl
words-put (suc t) i cs =
    rw (letters_put i i 0 cs (omega arith))
    (map_choices (raised i) (map (raised (suc i))) _ _
    (λ j. rw (one_less-put i cs j, words-put t i (one_less cs j), map-map, map-map) (ap (λ b. map (λ x. b ∷ map (raised (suc i)) x) (words t (one_less cs j))) (sym (raised-suc i j))))
    (letters_from 0 cs))
