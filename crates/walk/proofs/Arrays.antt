-- What the array of a walk holds after a step and at a start, by what was written to its front.
-- Assumes nothing.
use mathlib.Core.Path.{◌≡◌, refl, sym, ◌∙◌, ap}
use mathlib.Core.Option.{some}
use mathlib.Core.List.{[], ◌++◌}
use Prim.Native.Nat.{ℕ, zero, suc, ◌-◌, ◌≤◌}
use native.Mathlib.Omega.{arith}
use lib.ListN.{length, take, drop, replicate, take-append-drop}
use lib.Seq.{length-take-le}
use Rattle.basics.specs.Limits.{longest_object}
use Rattle.listings.specs.Bytes.{Bytes}
use Rattle.listings.specs.Calls.{RANK, Answer, REFUSED, RANKED, Said}
use Rattle.families.specs.declared.Family.{Family}
use Rattle.families.specs.Table.{Lent}
use Rattle.families.specs.Families.{is_object}
use Rattle.families.specs.Calls.{respond}
use Rattle.families.proofs.FamilyFacts.{short}
use Rattle.families.proofs.Verdicts.{admitted, asks_enough}
use Rattle.families.proofs.Answered.{rank_told, missed_where_refused}
use Rattle.walk.specs.declared.Walk.{Walk}
use Rattle.walk.specs.declared.Way.{Way}
use Rattle.walk.specs.Walks.{kept, Outcome, step_refusal, step_kept, kept_by, keep, step_walk, walk_at, started_by, start_of}
use Rattle.walk.proofs.Told.{refused_so}

-- a walk with its own kept is the same walk
pub keep_same : (w : Walk) → keep w (kept_by w) ≡ w
unfolding keep kept_by
keep_same w =
    ap (λ (l : Bytes). record { family = w.family; bytes = l; len = w.len; number = w.number }) (take-append-drop w.len w.bytes)

module _ (a : Way) (b : Lent) (w : Walk) where
  -- a step that is refused hands the walk back
  pub handed_back : {q : ℕ} → step_refusal w.family b w.len (is_object w.family b (kept_by w).bytes) w.number ≡ some q → ◌≡◌ {A = Answer × Walk} (REFUSED q, w) (step_walk a b w)
  unfolding step_walk kept_by
  handed_back {q} e =
      ap {B = Answer × Walk} (λ (v : Walk). (REFUSED q, v)) (sym (keep_same w))
      ∙ ap {B = Answer × Walk} (λ (s : Outcome). (s.0, keep w s.1)) (refused_so a w.family b (take w.len w.bytes) w.number w.len e)

  -- a step on the front of the array
  pub front_stepped : {s : Answer} {y : Bytes} {p : ℕ} → w.len ≤ length w.bytes
      → ◌≡◌ {A = Outcome} (s, kept y p) (step_kept a w.family b (length (take w.len w.bytes)) (kept (take w.len w.bytes) w.number))
      → ◌≡◌ {A = Answer × Walk} (s, record { family = w.family; bytes = y ++ drop w.len w.bytes; len = w.len; number = p }) (step_walk a b w)
  unfolding step_walk kept_by keep
  front_stepped h e = ap {B = Answer × Walk} (λ (t : Outcome). (t.0, keep w t.1)) (rw (length-take-le w.len w.bytes h) at e)

-- what stands behind the object at a start
zeros_left : (n m : ℕ) → drop {A = ℕ} n (replicate m 0) ≡ replicate (m - n) 0
zeros_left zero m =
    let all : m ≡ m - 0 = omega arith in
    ap {B = Bytes} (λ (k : ℕ). replicate k 0) all
zeros_left (suc n) zero =
    let none : 0 ≡ 0 - suc n = omega arith in
    ap {B = Bytes} (λ (k : ℕ). replicate k 0) none
zeros_left (suc n) (suc m) =
    let one : m - n ≡ suc m - suc n = omega arith in
    zeros_left n m ∙ ap {B = Bytes} (λ (k : ℕ). replicate k 0) one

module _ (f : Family) (b : Lent) (x : Bytes) where
  starts_so : {r : ℕ} → ◌≡◌ {A = Said} (RANKED r, x) (respond RANK f b x) → ◌≡◌ {A = Answer × Walk} (RANKED r, walk_at f x r) (start_of f b x)
  unfolding start_of started_by
  starts_so e =
      let (pass, rank) = rank_told f b x (sym e) in
      rw (pass, rank)

  pub object_copied : {r : ℕ} {y : Bytes} → y ≡ x → ◌≡◌ {A = Said} (RANKED r, x) (respond RANK f b x)
      → ◌≡◌ {A = Answer × Walk} (RANKED r, record { family = f; bytes = y ++ drop {A = ℕ} (length x) (replicate longest_object 0); len = length x; number = r }) (start_of f b x)
  unfolding walk_at
  object_copied {r} copied e =
      ap {B = Answer × Walk} (λ (l : Bytes). (RANKED r, record { family = f; bytes = l; len = length x; number = r }))
      (ap (λ (l : Bytes). l ++ drop {A = ℕ} (length x) (replicate longest_object 0)) copied ∙ ap (λ (l : Bytes). x ++ l) (zeros_left (length x) longest_object))
      ∙ starts_so e

  pub refused_start : {s : Answer} {q : ℕ} → s ≡ REFUSED q → ◌≡◌ {A = Said} (s, x) (respond RANK f b x) → ◌≡◌ {A = Answer × Walk} (s, walk_at f [] 0) (start_of f b x)
  unfolding start_of started_by
  refused_start st e =
      let missed = missed_where_refused f b RANK x (sym (rw st at e)) in
      rw (st, missed.first)

  -- an object has room
  pub room : {r : ℕ} → ◌≡◌ {A = Said} (RANKED r, x) (respond RANK f b x) → length x ≤ longest_object
  room e =
      let (pass, _) = rank_told f b x (sym e) in
      omega (arith, (asks_enough f b).sized RANK (length x) (is_object f b x) refl pass, short f b (admitted f b RANK (length x) (is_object f b x) pass))
