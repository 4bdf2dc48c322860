-- A run's record taken a call at a time: what is written so far, followed by what the calls left will give, is the whole.
-- Assumes nothing.
use mathlib.Core.Path.{◌≡◌, refl, sym, ◌∙◌, ap}
use mathlib.Core.List.{List, [], ◌∷◌, ◌++◌, flat_map, append_assoc, append-nil}
use Prim.Native.Nat.{ℕ, suc, ◌+◌, ◌≤◌, ◌<◌}
use native.Mathlib.Numerals.{add-one}
use native.Mathlib.Omega.{arith}
use lib.ListN.{length, get_or, set, take, drop, length-append}
use lib.Seq.{drop-cons, drop-length, append_snoc, take-suc-set, take_all, take_at, length-take-le}
use Rattle.listings.specs.Bytes.{Bytes}
use Rattle.listings.specs.Calls.{Said, responses}
use Rattle.listings.specs.Runs.{finally}
use Rattle.families.specs.declared.Family.{Family}
use Rattle.families.specs.Table.{Lent}
use Rattle.families.specs.Calls.{respond, run}
use Rattle.families.specs.Codes.{Coded, coded}
use Rattle.replay.specs.Codes.{call_of, calls_of}
use Rattle.replay.specs.Record.{codes_of, trail_of, buffers, kept}

-- bytes put at a place are what is read behind what stood before it
pub stored : (at : ℕ) (w x rest : Bytes) → at ≤ length w → take (at + length x) (take at w ++ (x ++ rest)) ≡ take at w ++ x
stored at w x rest h =
    ap (λ (l : Bytes). take (at + length x) l) (sym (append_assoc (take at w) x rest))
    ∙ take_at (take at w ++ x) rest (at + length x) (length-append (take at w) x ∙ ap (λ (n : ℕ). n + length x) (length-take-le at w h))

module _ (f : Family) (b : Lent) (s : Bytes) (calls ranks : List ℕ) where
  abbrev whole : List Said
  whole = run (calls_of calls ranks) f b s

  -- what the calls from the i-th on give, on the bytes x
  abbrev todo : ℕ → Bytes → List Said
  todo i x = run (calls_of (drop i calls) (drop i ranks)) f b x

  -- what the i-th call gives on the bytes x
  abbrev said : ℕ → Bytes → Said
  said i x = respond (call_of (get_or calls i 0) (get_or ranks i 0)) f b x

  -- before the i-th call: the codes so far, the bytes so far up to a place of the trail, and the bytes x in the buffer
  pub record Standing (i at : ℕ) (x : Bytes) (answers : List ℕ) (trail : Bytes) : Type 0 where
    pub codes : take i answers ++ codes_of (todo i x) ≡ codes_of whole
    pub bytes : take at trail ++ trail_of (todo i x) ≡ trail_of whole
    pub end : finally x (todo i x) ≡ finally s whole

  pub start : (answers : List ℕ) (trail : Bytes) → Standing 0 0 s answers trail
  start answers trail = record { codes = refl; bytes = refl; end = refl }

  module _ (ranked : length ranks ≡ length calls) where
    one_more : (i : ℕ) (x : Bytes) → i < length calls → todo i x ≡ said i x ∷ todo (suc i) (said i x).1
    unfolding run responses calls_of
    one_more i x inside = rw (drop-cons calls i 0 inside, drop-cons ranks i 0 (omega arith))

    -- a turn: the i-th call's code is stored at i, and the bytes that it left behind those before
    pub turn : {i at : ℕ} {x : Bytes} {answers : List ℕ} {trail : Bytes} (code : ℕ) (y trail' : Bytes) → Standing i at x answers trail → i < length calls → length answers ≡ length calls
        → ◌≡◌ {A = Coded} (code, y) (coded (said i x)) → take (at + length y) trail' ≡ take at trail ++ y
        → Standing (i + 1) (at + length y) y (set answers i code) trail'
    unfolding codes_of trail_of flat_map finally
    turn {i} {at} {x} {answers} {trail} code y trail' st inside long e et =
        let more = one_more i x inside in
        let ec = ap (λ (p : Coded). p.0) e in
        let ey = ap (λ (p : Coded). p.1) e in
        rw (add-one, ey) record {
          codes = rw (take-suc-set answers i code (omega arith), append_snoc, ec) (rw more at st.codes);
          bytes = ap (λ (l : Bytes). l ++ trail_of (todo (suc i) (said i x).1)) (rw ey at et) ∙ append_assoc (take at trail) (said i x).1 (trail_of (todo (suc i) (said i x).1)) ∙ rw more at st.bytes;
          end = rw more at st.end;
        }

    -- after the last call the record is whole
    pub over : {i at : ℕ} {x : Bytes} {answers : List ℕ} {trail : Bytes} → Standing i at x answers trail → i ≡ length calls → i ≡ length answers → at ≡ length trail
        → buffers x answers trail ≡ kept s whole
    unfolding kept codes_of trail_of flat_map finally run responses calls_of
    over {i} {at} {x} {answers} {trail} st e ea et =
        let none : todo i x ≡ [] = rw (e, drop-length calls) in
        let codes = rw (none, append-nil, take_all i answers (omega arith)) at st.codes in
        let bytes = rw (none, append-nil, take_all at trail (omega arith)) at st.bytes in
        let end = rw none at st.end in
        λ j. buffers (end j) (codes j) (bytes j)
