-- A word is found or written letter after letter: what stands where among the words of the letters left, stands with the front before it
-- as many places on as words come before all that start so. Assumes nothing.
use mathlib.Core.Path.{◌≡◌, refl, sym, ◌∙◌, ap, subst}
use mathlib.Core.Bool.{true}
use mathlib.Core.List.{List, [], ◌∷◌, ◌++◌, append-nil}
use Prim.Native.Nat.{ℕ, suc, ◌+◌, ◌-◌, ◌*◌, ◌/◌, ◌≤◌, ◌<◌}
use native.Mathlib.Nat.{pos_of_ne-zero, zero-add, add-zero, add_assoc}
use native.Mathlib.Numerals.{add-one}
use native.Mathlib.Omega.{arith}
use lib.ListN.{length, take, drop, get_or, set, length-set, length-drop}
use lib.Seq.{append_snoc, take-suc, take-suc-set, take_all}
use Rattle.basics.specs.Limits.{places}
use Rattle.basics.specs.Sums.{total}
use Rattle.basics.proofs.Totals.{total_take_more}
use Rattle.numbers.specs.Numbers.{multinomial_of, one_less}
use Rattle.numbers.proofs.Laws.{multinomial_positive, total_less, one_empty, one_less-set, length-one_less, left-inside}
use Rattle.listings.specs.Bytes.{Bytes}
use Rattle.listings.specs.Places.{At, count_before}
use Rattle.listings.proofs.PlaceRules.{at_below, at_exists}
use Rattle.listings.proofs.Ranks.{place-is_rank}
use Rattle.anagrams.specs.Listing.{words, anagrams}
use Rattle.anagrams.specs.Objects.{is_anagram, anagram_before}
use Rattle.anagrams.proofs.Theorem.{lists, counted, long}
use Rattle.anagrams.proofs.Testing.{letter_spent, letter_there}
use Rattle.anagram_ranks.proofs.Ranks.{place_letter, share_more}

-- what a word of the letters left tells of the letter at place i: it stands at place k of the counts
pub record Turn (cs : List ℕ) (x : Bytes) (i k : ℕ) : Type 0 where
  pub letter : get_or x i 0 ≡ suc k
  pub inside : k < length cs
  pub left : 0 < get_or cs k 0
  pub some : 0 < total cs
  pub rest : is_anagram (one_less cs k) (drop (i + 1) x) ≡ true

pub turn : (cs : List ℕ) (x : Bytes) (i a : ℕ) → a ≡ get_or x i 0 → i < length x → is_anagram cs (drop i x) ≡ true → (0 < a) × Turn cs x i (a - 1)
turn cs x i a is h o =
    let (k, e, l) = letter_there cs x i h o in
    let place : k ≡ a - 1 = omega arith in
    (omega arith, rw (← place) record { letter = omega arith; inside = left-inside cs k l; left = l; some = omega (arith, total_less cs k l); rest = rw (one_less-set cs k) at (sym (letter_spent cs x i k h e l) ∙ o) })

pub size-left : (cs : List ℕ) (x : Bytes) (i : ℕ) → is_anagram cs (drop i x) ≡ true → total cs ≡ length x - i
size-left cs x i o = sym (long cs (drop i x) o) ∙ length-drop i x

-- the words that start with a front are those of the letters left, as many places on as words come before them
pub record Front (all : List ℕ) (front : Bytes) (n : ℕ) (left : List ℕ) : Type 0 where
  pub kept : length left ≡ length all
  pub moves : (y : Bytes) (r : ℕ) → At (anagrams left) y r → At (anagrams all) (front ++ y) (n + r)

pub no_front : (cs : List ℕ) → Front cs [] 0 cs
no_front cs = record { kept = refl; moves = λ y r h. rw zero-add h }

-- one letter more: s of the words start with an earlier one

module _ {all left left' : List ℕ} {n s words m : ℕ} (a : ℕ) (has : 0 < get_or left a 0) (w : words ≡ multinomial_of left) (t : total left ≡ m)
    (e : s ≡ words * total (take a left) / m) (l : left' ≡ one_less left a) where
  longer : {front : Bytes} → Front all front n left → Front all (front ++ (suc a ∷ [])) (n + s) left'
  longer {front} f = rw (l, e, w, ← t) record {
    kept = length-one_less left a ∙ f.kept;
    moves = λ y r k. rw (append_snoc front (suc a) y, add_assoc) (f.moves (suc a ∷ y) _ (place_letter left a r has k));
  }

  pub front_read : (x : Bytes) (i : ℕ) → i < length x → get_or x i 0 ≡ suc a → Front all (take i x) n left → Front all (take (i + 1) x) (n + s) left'
  front_read x i inside h f = rw (add-one, take-suc x i 0 inside, h) (longer f)

  pub front_write : (x : Bytes) (i : ℕ) → i < length x → Front all (take i x) n left → Front all (take (i + 1) (set x i (a + 1))) (n + s) left'
  front_write x i inside f = rw (add-one i, take-suc-set x i (a + 1) inside, add-one a) (longer f)

-- there are as many words behind as the letters left make
pub front_fits : {all left : List ℕ} {front : Bytes} {n : ℕ} → Front all front n left → n + multinomial_of left ≤ multinomial_of all
front_fits {all} {left} f =
    let p = multinomial_positive left in
    let (y, h) = at_exists (anagrams left) (multinomial_of left - 1) (rw counted (omega arith)) in
    omega (arith, counted all, at_below (anagrams all) _ (f.moves y _ h))

-- with no letter left the front is the word
pub whole_word : {all left : List ℕ} (x : Bytes) (i : ℕ) {n : ℕ} → length x ≤ i → total left ≡ 0 → Front all (take i x) n left → At (anagrams all) x n
unfolding anagrams words
whole_word x i h e f = rw (take_all i x h, append-nil, add-zero) at (f.moves [] 0 (rw e))

-- the letters that are left, as the code keeps them
pub record Left (counts : List ℕ) (size words : ℕ) : Type 0 where
  pub sized : total counts ≡ size
  pub short : size ≤ places
  pub counted : words ≡ multinomial_of counts

-- a word of which the first i letters are read: the rest is a word of the letters left, and rank is the number of words before all that start as it does

pub record Read (all : List ℕ) (x : Bytes) (counts : List ℕ) (size words rank i : ℕ) : Type 0 where
  pub left : Left counts size words
  pub rest : is_anagram counts (drop i x) ≡ true
  pub front : Front all (take i x) rank counts

pub read_none : (cs : List ℕ) (x : Bytes) {words : ℕ} → total cs ≤ places → is_anagram cs x ≡ true → words ≡ multinomial_of cs → Read cs x cs (length x) words 0 0
read_none cs x h o w = record { left = record { sized = sym (long cs x o); short = omega (arith, long cs x o); counted = w }; rest = o; front = no_front cs }

-- the letter a, before which s words start
module _ {all : List ℕ} {x : Bytes} {counts : List ℕ} {size words rank i : ℕ} (so : Read all x counts size words rank i) (a : ℕ) (is : a ≡ get_or x i 0) (inside : i < length x) where
  pub first_of_rest : (0 < a) × Turn counts x i (a - 1)
  first_of_rest = turn counts x i a is inside so.rest

  read_on : {left : List ℕ} {s : ℕ} → s ≡ words * total (take (a - 1) counts) / size → left ≡ one_less counts (a - 1) → Front all (take (i + 1) x) (rank + s) left
  read_on e l = let (_, t) = first_of_rest in front_read (a - 1) t.left so.left.counted so.left.sized e l x i inside t.letter so.front

  pub read_fits : {s : ℕ} → s ≡ words * total (take (a - 1) counts) / size → rank + s ≤ multinomial_of all
  read_fits e = omega (arith, front_fits (read_on e refl))

  pub read_more : {counts' : List ℕ} {size' words' s : ℕ} → s ≡ words * total (take (a - 1) counts) / size → counts' ≡ one_less counts (a - 1) → Left counts' size' words' → Read all x counts' size' words' (rank + s) (i + 1)
  read_more e l left = record { left = left; rest = rw l first_of_rest.1.rest; front = read_on e l }

pub read_all : {all : List ℕ} {x : Bytes} {counts : List ℕ} {size words rank i : ℕ} → Read all x counts size words rank i → length x ≤ i → rank ≡ count_before anagram_before x (anagrams all)
read_all {all} {x} {counts} {rank} {i} so h =
    let none : total counts ≡ 0 = omega (arith, size-left counts x i so.rest) in
    sym (place-is_rank (lists all) rank (whole_word x i h none so.front))

-- the word of a rank, of which the first i letters are written: the rank among the words of the letters left is rest

pub record Written (all : List ℕ) (rank : ℕ) (counts : List ℕ) (size words : ℕ) (x : Bytes) (rest i : ℕ) : Type 0 where
  pub left : Left counts size words
  pub inside : i ≤ length x
  pub behind : size ≡ length x - i
  pub below : rest < words
  pub within : rest ≤ rank
  pub front : Front all (take i x) (rank - rest) counts

-- the letter at place a of the counts, whose words the rank falls into: `among` is the rank among these
module _ {all counts : List ℕ} {x : Bytes} {rank size words rest i : ℕ} (so : Written all rank counts size words x rest i) (a among : ℕ)
    (there : a < length counts) (low : words * total (take a counts) / size + among ≡ rest) (high : rest < words * total (take (a + 1) counts) / size) where
  pub picked : 0 < get_or counts a 0
  picked = pos_of_ne-zero (λ z. omega (arith, rw (total_take_more counts a there, z, add-zero) at high))

  fits : among < multinomial_of (one_less counts a)
  fits = let l = so.left in omega (arith, rw (l.counted, ← l.sized, share_more counts a picked) at high, rw (l.counted, ← l.sized) at low)

  pub write_more : {counts' : List ℕ} {size' words' : ℕ} → i < length x → counts' ≡ one_less counts a → Left counts' size' words' → Written all rank counts' size' words' (set x i (a + 1)) among (i + 1)
  write_more {counts'} inside l left =
      let f = front_write a picked so.left.counted so.left.sized refl l x i inside so.front in
      let d : rank - rest + words * total (take a counts) / size ≡ rank - among = omega (arith, low, so.within) in
      record {
        left = left;
        inside = simp length-set (omega arith);
        behind = simp length-set (omega (arith, total_less counts a picked, so.left.sized, so.behind, left.sized, ap total l));
        below = omega (arith, fits, left.counted, ap multinomial_of l);
        within = omega (arith, low, so.within);
        front = subst (λ k. Front all (take (i + 1) (set x i (a + 1))) k counts') d f;
      }

-- at the end one word is left, at rank 0
pub write_all : {all counts : List ℕ} {x : Bytes} {rank size words rest i : ℕ} → Written all rank counts size words x rest i → length x ≤ i → At (anagrams all) x rank
write_all {counts} {x} {rank} {rest} {i} so h =
    let none : total counts ≡ 0 = omega (arith, so.behind, so.left.sized) in
    let first : rank - rest ≡ rank = omega (arith, one_empty counts none, so.below, so.left.counted) in
    rw first at (whole_word x i h none so.front)
