-- Where no key in front of a place can move, the models in front of it are the last partition, or, going back, the first. What a step there makes
-- of the whole: those behind it keep neighbours. Assumes nothing.
use mathlib.Core.Path.{◌≡◌, sym, ◌∙◌, ap, subst, subst₂, subst₃}
use mathlib.Core.Bool.{Bool, true, false, not, false≢true}
use mathlib.Core.List.{[], ◌∷◌, ◌++◌}
use Prim.Native.Nat.{ℕ, zero, suc, ◌+◌, ◌-◌, ◌≤◌, ◌<◌, max}
use native.Mathlib.Nat.{add-zero, suc-add, add-suc}
use native.Mathlib.Decide.{dec_lt}
use native.Mathlib.Omega.{arith}
use lib.ListN.{length, take, drop, get_or, set, length-drop}
use lib.Seq.{take-suc, take-length, drop-length, drop-cons, append_snoc, split_at}
use borrow.Author.Tests.{eqb-true}
use Rattle.basics.proofs.Lists.{drop-set}
use Rattle.listings.specs.Bytes.{Bytes}
use Rattle.listings.specs.Directions.{Beside, Edge}
use Rattle.listings.specs.Places.{Follows}
use Rattle.listings.proofs.ChoicePlaces.{inside_choice, beside_seam, Tail, ends, then, tail_beside}
use Rattle.set_partitions.specs.KeyOrder.{Edition, keys_in_order}
use Rattle.set_partitions.specs.Objects.{opens, is_set_partition}
use Rattle.set_partitions.specs.Listing.{others_in, set_partitions}
use Rattle.set_partitions.specs.Inner.Moves.{opens_late, moves, key_to, used_before, moves_at, FirstMove}
use Rattle.set_partitions.proofs.Facts.{Opened, opens-cases, partition_cases, key_at, key_found}
use Rattle.set_partitions.proofs.KeyOrder.{key_listed, new_stays, Goes, goes, Becomes}
use Rattle.set_partitions.proofs.Theorem.{others, behind}
use Rattle.set_partitions.proofs.Places.{none_edge, edge_kept, edge_fits}

-- the models in front of place r, in the blocks 1 to u, and the others

record EndInFront (e : Edition) (up : Bool) (k r u : ℕ) (x : Bytes) : Type 0 where
  end : Edge up (set_partitions e r u) (take r x)
  rest : opens u k (drop r x) ≡ true

opened : {e : Edition} {up : Bool} (k r u : ℕ) (x : Bytes) → r < length x → EndInFront e up k r u x → Opened u k (get_or x r 0) (drop (suc r) x)
opened k r u x inside f = opens-cases u k (get_or x r 0) (drop (suc r) x) (rw (drop-cons x r 0 inside) at f.rest)

front : (e : Edition) (up : Bool) (k r : ℕ) (x : Bytes) → opens 0 k x ≡ true → r ≤ length x → ((i : ℕ) → i < r → moves_at (opens_late e up) up x i ≡ false) → EndInFront e up k r (used_before x r) x
unfolding used_before
front e up k zero x o h passed = record { end = none_edge e up; rest = o }
front e up k (suc r) x o h passed =
    let u : ℕ = used_before x r in
    let b : ℕ = get_or x r 0 in
    let p = front e up k r x o (omega arith) (λ i l. passed i (omega arith)) in
    let f = opened k r u x h p in
    let all : max u b ≡ suc (max u b - 1) = omega (arith, f.from) in
    record {
      end = rw (take-suc x r 0 h) (subst (λ m. Edge up (set_partitions e (suc r) m) (take r x ++ (b ∷ []))) (sym all) (edge_kept e r u b (max u b - 1) f.from f.upto all up (passed r (omega arith)) p.end));
      rest = f.rest;
    }

-- the first model is in block 1
pub first_block : (n k : ℕ) (x : Bytes) → is_set_partition n k x ≡ true → 0 < length x → get_or x 0 0 ≡ 1
first_block n k [] o some = absurd (omega arith)
first_block n k (b ∷ x) o some = let f = opens-cases 0 k b x (partition_cases n k (b ∷ x) o).1 in omega (arith, f.from, f.upto)

-- all are passed
pub all_passed : {up : Bool} (e : Edition) (k : ℕ) (x : Bytes) → is_set_partition (length x) k x ≡ true → ((i : ℕ) → i < length x → moves_at (opens_late e up) up x i ≡ false) → Edge up (set_partitions e (length x) k) x
unfolding opens
all_passed {up} e k x o passed =
    let f = front e up k (length x) x (partition_cases (length x) k x o).1 (omega arith) passed in
    let v : ℕ = used_before x (length x) in
    subst₂ (λ j z. Edge up (set_partitions e (length x) j) z) (eqb-true v k (subst (λ z. opens v k z ≡ true) (drop-length x) f.rest)) (take-length x) f.end

-- the same models behind two neighbours leave them neighbours

same_key : (e : Edition) (n k c : ℕ) {x y : Bytes} → c ≤ suc k → Follows (set_partitions e n (others_in k c)) x y → Follows (set_partitions e (suc n) (suc k)) (behind k c x) (behind k c y)
unfolding set_partitions
same_key e n k c h f = inside_choice (others e n k) (behind k) (key_listed e (suc k) c h) f

same_block : (e : Edition) (n m b : ℕ) → 1 ≤ b → b ≤ suc m → (x y : Bytes) → Follows (set_partitions e n m) x y → Follows (set_partitions e (suc n) (max m b)) (x ++ (b ∷ [])) (y ++ (b ∷ []))
same_block e n m b from upto x y f =
    let k : ℕ = max m b - 1 in
    let all : suc k ≡ max m b = omega arith in
    let t = key_found m k b from upto (sym all) in
    subst₂ (λ a d. Follows (set_partitions e (suc n) a) (x ++ (d ∷ [])) (y ++ (d ∷ []))) all (sym t.block) (same_key e n k (key_at m b) t.small (subst (λ j. Follows (set_partitions e n j) x y) t.others f))

abbrev Rest : Edition → ℕ × ℕ → Bytes → ℕ × ℕ → Type 0
Rest e = Tail (λ s. set_partitions e s.0 s.1)

same_rest : (e : Edition) (n m k : ℕ) (z : Bytes) → opens m k z ≡ true → Rest e (n, m) z (n + length z, k)
unfolding opens
same_rest e n m k [] o = rw (add-zero, ← eqb-true m k o) ends
same_rest e n m k (b ∷ z) o =
    let g = opens-cases m k b z o in
    rw (add-suc, ← suc-add) (then (same_block e n m b g.from g.upto) (same_rest e (suc n) (max m b) k z g.rest))

-- x with other models y in front of place r, and v at it
moved_whole : {up : Bool} (e : Edition) (k r m v : ℕ) (x y : Bytes) → r < length x → opens m k (drop (suc r) x) ≡ true → Beside up (set_partitions e (suc r) m) (take r x ++ (get_or x r 0 ∷ [])) (y ++ (v ∷ []))
    → Beside up (set_partitions e (length x) k) x (y ++ drop r (set x r v))
moved_whole {up} e k r m v x y inside o f =
    let z : Bytes = drop (suc r) x in
    subst₃ (λ n t w. Beside up (set_partitions e n k) t w) (rw length-drop (omega arith)) (append_snoc (take r x) (get_or x r 0) z ∙ sym (split_at x r 0 inside))
    (append_snoc y v z ∙ ap (λ w. y ++ w) (sym (drop-set x r v inside))) (tail_beside (same_rest e (suc r) m k z o) f)

seam : {up : Bool} (e : Edition) (n k c d : ℕ) {x y : Bytes} → Beside up (keys_in_order e (suc k)) c d → Edge up (set_partitions e n (others_in k c)) x → Edge (not up) (set_partitions e n (others_in k d)) y → Beside up (set_partitions e (suc n) (suc k)) (behind k c x) (behind k d y)
unfolding set_partitions
seam e n k c d = beside_seam (others e n k) (behind k)

-- the key of the first model cannot move
first_moves : (late up : Bool) (r u b : ℕ) → u ≡ 0 → r ≡ 0 → b ≡ 1 → moves late up r u b ≡ true → ⊥
first_moves late up r u b none here one can = false≢true (sym (rw (none, here, one) (new_stays late up 0 0 (λ q. omega arith))) ∙ can)

-- what the step at place r needs, where the blocks 1 to u are used in front of it, and what it makes
pub record Turn (e : Edition) (up : Bool) (k r u : ℕ) (x : Bytes) : Type 0 where
  pub few : u ≤ r
  pub some : 1 ≤ u
  pub from : 1 ≤ get_or x r 0
  pub upto : get_or x r 0 ≤ suc u
  pub moved : (v m : ℕ) → Becomes up u (get_or x r 0) v m → ((m ≤ r) × (m ≡ 0 → r ≡ 0)) × ((y : Bytes) → Edge (not up) (set_partitions e r m) y → Beside up (set_partitions e (length x) k) x (y ++ drop r (set x r v)))

pub turn : {up : Bool} (e : Edition) (k r u : ℕ) (x : Bytes) → is_set_partition (length x) k x ≡ true → FirstMove (opens_late e up) up x r u → Turn e up k r u x
turn {up} e k r u x o s =
    let inside = s.inside in
    let b : ℕ = get_or x r 0 in
    let j : ℕ = max u b - 1 in
    let f = subst (λ v. EndInFront e up k r v x) (sym s.used) (front e up k r x (partition_cases (length x) k x o).1 (omega arith) s.passed) in
    let g = opened k r u x inside f in
    let few = edge_fits e r u f.end in
    let all : suc j ≡ max u b = omega (arith, g.from) in
    let t = key_found u j b g.from g.upto (sym all) in
    let can : moves (opens_late e up) up r u b ≡ true = subst (λ v. moves (opens_late e up) up r v b ≡ true) (sym s.used) s.found in
    let to : Goes e up r j (max u b) (key_at u b) = subst (λ l. Goes e up r j l (key_at u b)) all (goes e up r u b j few.0 g.from g.upto (sym all) can) in
    record {
      few = few.0;
      some = elim (dec_lt 0 u) [ yes h ↦ h | no h ↦ absurd (first_moves (opens_late e up) up r u b (omega arith) (few.1 (omega arith)) (omega (arith, g.from, g.upto)) can) ];
      from = g.from;
      upto = g.upto;
      moved = λ v m a. (
        rw a.1 to.fits,
        λ y z. moved_whole e k r (max u b) v x y inside g.rest
            (subst₃ (λ l w d. Beside up (set_partitions e (suc r) l) (take r x ++ (w ∷ [])) (y ++ (d ∷ []))) all (sym t.block) (sym a.0)
            (seam e r j (key_at u b) (key_to up u b) (rw all to.beside) (subst (λ l. Edge up (set_partitions e r l) (take r x)) t.others f.end) (subst (λ l. Edge (not up) (set_partitions e r l) y) a.1 z))),
      );
    }
