-- A run, step by step: what is done and what is left of it at every place; and that it leaves the walk that its list of steps leaves.
-- Assumes nothing.
use mathlib.Core.Path.{◌≡◌, refl, sym, ◌∙◌, ap}
use mathlib.Core.Bool.{Bool, false}
use mathlib.Core.List.{List, [], ◌∷◌, ◌++◌, map}
use Prim.Native.Nat.{ℕ, suc, ◌≤◌, ◌<◌}
use native.Mathlib.Omega.{arith}
use lib.ListN.{length, get_or, set, take, drop, take-append-drop, drop_of_length-le}
use lib.Seq.{drop-cons, drop-set-lt, take-suc-set, append_snoc}
use Rattle.listings.specs.Bytes.{Bytes}
use Rattle.listings.specs.Calls.{Answer}
use Rattle.families.specs.Table.{Lent}
use Rattle.families.specs.Codes.{code_of}
use Rattle.walk.specs.declared.Walk.{Walk}
use Rattle.walk.specs.Walks.{step_walk, Handed, walked, way_of, run_of}

-- what a run leaves
abbrev pub Left : Type 0
Left = Walk × Bytes

-- behind codes that are written
abbrev behind : Bytes → Left → Left
behind done r = (r.0, done ++ r.1)

-- without room no step is taken
no_room : (w : Walk) (b : Lent) (on : List Bool) → ◌≡◌ {A = Left} (run_of w b on []) (w, [])
unfolding run_of
no_room w b [] = refl
no_room w b (v ∷ on) = refl

-- the first step of a run, and the rest
first_step : (w : Walk) (b : Lent) (v : Bool) (on : List Bool) (c : ℕ) (answers : Bytes) {s : Answer} {u : Walk} → ◌≡◌ {A = Answer × Walk} (s, u) (step_walk (way_of v) b w)
    → ◌≡◌ {A = Left} (run_of w b (v ∷ on) (c ∷ answers)) ((run_of u b on answers).0, code_of s ∷ (run_of u b on answers).1)
unfolding run_of
first_step w b v on c answers e =
    ap {B = Left} (λ (t : Answer × Walk). ((run_of t.1 b on answers).0, code_of t.0 ∷ (run_of t.1 b on answers).1)) (sym e)

module _ (b : Lent) where
  -- a run of which i steps are taken: their codes, and the steps that are left
  abbrev pub taken : Walk → List Bool → Bytes → ℕ → Left
  taken w on answers i = behind (take i answers) (run_of w b (drop i on) (drop i answers))

  pub none_taken : (w : Walk) (on : List Bool) (answers : Bytes) → ◌≡◌ {A = Left} (taken w on answers 0) (run_of w b on answers)
  none_taken w on answers = refl

  pub one_more : (w : Walk) (on : List Bool) (answers : Bytes) (i : ℕ) {s : Answer} {v : Walk} {code : ℕ} → i < length on → i < length answers
      → ◌≡◌ {A = Answer × Walk} (s, v) (step_walk (way_of (get_or on i false)) b w) → code ≡ code_of s → ◌≡◌ {A = Left} (taken v on (set answers i code) (suc i)) (taken w on answers i)
  one_more w on answers i {s} {v} {code} more room e told =
      let later = run_of v b (drop (suc i) on) (drop (suc i) answers) in
      let unrolled : ◌≡◌ {A = Left} (run_of w b (drop i on) (drop i answers)) (later.0, code_of s ∷ later.1) =
      rw (drop-cons on i false more, drop-cons answers i 0 room) (first_step w b (get_or on i false) (drop (suc i) on) (get_or answers i 0) (drop (suc i) answers) e) in
      let written : take (suc i) (set answers i code) ≡ take i answers ++ (code ∷ []) = take-suc-set answers i code room in
      let others : drop (suc i) (set answers i code) ≡ drop (suc i) answers = drop-set-lt (suc i) answers i code (omega arith) in
      rw (written, others, told) (ap {B = Left} (λ (l : Bytes). (later.0, l)) (append_snoc (take i answers) (code_of s) later.1))
      ∙ sym (ap {B = Left} (behind (take i answers)) unrolled)

  pub all_taken : (w : Walk) (on : List Bool) (answers : Bytes) (i : ℕ) → length on ≤ i → ◌≡◌ {A = Left} (w, answers) (taken w on answers i)
  unfolding run_of
  all_taken w on answers i h = rw (drop_of_length-le on h, take-append-drop i answers)

  pub room_taken : (w : Walk) (on : List Bool) (answers : Bytes) (i : ℕ) → length answers ≤ i → ◌≡◌ {A = Left} (w, answers) (taken w on answers i)
  room_taken w on answers i h =
      ap {B = Left} (λ (l : Bytes). (w, l)) (sym (take-append-drop i answers) ∙ ap (λ (l : Bytes). take i answers ++ l) (drop_of_length-le answers h))
      ∙ ap {B = Left} (behind (take i answers)) (sym (no_room w b (drop i on)) ∙ ap {B = Left} (λ (l : Bytes). run_of w b (drop i on) l) (sym (drop_of_length-le answers h)))

-- a run leaves the walk of its steps, as many as there is room for
pub run_walks : (w : Walk) (b : Lent) (on : List Bool) (answers : Bytes) → (run_of w b on answers).0 ≡ walked w (map {B = Handed} (λ (v : Bool). (way_of v, b)) (take (length answers) on))
unfolding run_of walked
run_walks w b [] [] = refl
run_walks w b [] (c ∷ answers) = refl
run_walks w b (v ∷ on) [] = refl
run_walks w b (v ∷ on) (c ∷ answers) = run_walks (step_walk (way_of v) b w).1 b on answers
