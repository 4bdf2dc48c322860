-- A walk that was started knows its number: after any list of steps it is the rank of the bytes kept; and the steps are the plain calls.
-- Assumes nothing.
use mathlib.Core.Path.{◌≡◌, refl, sym, ◌∙◌, ap, subst}
use mathlib.Core.Bool.{Bool, true}
use mathlib.Core.Option.{Option, none, some, some-injective, some-ne-none}
use mathlib.Core.List.{List, [], ◌∷◌, map}
use Prim.Native.Nat.{ℕ, suc, ◌-◌, ◌<◌, ◌^◌}
use native.Mathlib.Omega.{arith}
use lib.ListN.{length, take, replicate}
use lib.Seq.{take-append_seam}
use Rattle.basics.specs.Limits.{longest_object}
use Rattle.listings.specs.Bytes.{Bytes}
use Rattle.listings.specs.Calls.{RANK, Answer, REFUSED, RANKED, Said, judged, act, responses}
use Rattle.listings.proofs.PlaceRules.{at_below}
use Rattle.families.specs.declared.Family.{Family}
use Rattle.families.specs.Table.{Lent}
use Rattle.families.specs.Families.{is_object, comes_before, listing, count_of, rank_of}
use Rattle.families.specs.Questions.{asked, is_in, refusal}
use Rattle.families.specs.Calls.{respond, run}
use Rattle.families.specs.Marker.{marker}
use Rattle.families.proofs.FamilyFacts.{lawful, rank_is_place}
use Rattle.families.proofs.Verdicts.{asks_enough, fits-asked, rank_passes}
use Rattle.families.proofs.Answered.{object_at_rank, opens_for, rank_told, rank_answers}
use Rattle.families.proofs.Demand.{calls_are_the_marker}
use Rattle.walk.specs.declared.Walk.{Walk}
use Rattle.walk.specs.declared.Way.{Way}
use Rattle.walk.specs.declared.Way.TheVariants.{Forth, Back}
use Rattle.walk.specs.Walks.{call_of, Kept, kept, Outcome, Handed, renumbered, step_kept, kept_by, keep, step_walk, walk_at, started_by, start_of, steps, walked, walked_lent, way_of, run_of}
use Rattle.walk.proofs.Asked.{number_passes, object_held}
use Rattle.walk.proofs.Runs.{run_walks}
use Rattle.walk.proofs.OneList.{one_list}
use Rattle.walk.proofs.AnyWalk.{keeps, Beside, beside-object, misses, Gone, missed, ended, moved, numberless, gone, as_plain_call}

-- the bytes kept are an object of f with b, and the number kept is its rank
pub record Right (f : Family) (b : Lent) (k : Kept) : Type 0 where
  pub object : is_object f b k.bytes ≡ true
  pub ranked : k.number ≡ rank_of f b k.bytes
  pub fits : count_of f b < 2 ^ 64

-- so it is of what a walk keeps, as many bytes as it says
pub record Sound (f : Family) (b : Lent) (w : Walk) : Type 0 where
  pub family : w.family ≡ f
  pub long : w.len ≡ length (kept_by w).bytes
  pub right : Right f b (kept_by w)

-- the answer of a step, and the bytes kept after it
abbrev pub said : Answer × Walk → Said
said s = (s.0, (kept_by s.1).bytes)

-- steps that are all handed the same lists
abbrev pub alike : Lent → List Way → List Handed
alike b ways = map (λ (a : Way). (a, b)) ways

-- the ranks of neighbours are one apart
beside_ranks : (a : Way) (f : Family) (b : Lent) (x y : Bytes) → Beside a (listing f b) x y → renumbered a (rank_of f b x) ≡ some (rank_of f b y)
unfolding renumbered
beside_ranks Forth f b x y s = rw (rank_is_place f b s.place s.here, rank_is_place f b (suc s.place) s.there)
beside_ranks Back f b x y s = rw (rank_is_place f b (suc s.place) s.there, rank_is_place f b s.place s.here)

module _ (f : Family) (b : Lent) where
  -- RANK says the number, and of what it says the number is right

  pub right-answers : {k : Kept} → Right f b k → respond RANK f b k.bytes ≡ (RANKED k.number, k.bytes)
  right-answers {k} s = rank_answers f b k.bytes s.object s.fits ∙ ap (λ (r : ℕ). (RANKED r, k.bytes)) (sym s.ranked)

  pub sound_answers : {w : Walk} → Sound f b w → respond RANK f b (kept_by w).bytes ≡ (RANKED w.number, (kept_by w).bytes)
  unfolding kept_by
  sound_answers s = right-answers s.right

  passed-right : (x : Bytes) → refusal RANK f b (length x) (is_object f b x) ≡ none → Right f b (kept x (rank_of f b x))
  unfolding asked is_in
  passed-right x pass =
      record {
        object = (asks_enough f b).reads RANK (length x) (is_object f b x) refl pass;
        ranked = refl;
        fits = fits-asked f b RANK (length x) (is_object f b x) refl pass;
      }

  pub ranked-right : (x : Bytes) {r : ℕ} → respond RANK f b x ≡ (RANKED r, x) → Right f b (kept x r)
  ranked-right x e =
      let (pass, rank) = rank_told f b x e in
      subst (λ (p : ℕ). Right f b (kept x p)) rank (passed-right x pass)

  -- the start

  starts_with : (x : Bytes) (r : ℕ) → (kept_by (walk_at f x r)).bytes ≡ x
  unfolding kept_by walk_at
  starts_with x r = take-append_seam x (replicate (longest_object - length x) 0)

  sound_at : (x : Bytes) → refusal RANK f b (length x) (is_object f b x) ≡ none → Sound f b (walk_at f x (rank_of f b x))
  unfolding walk_at kept_by
  sound_at x pass =
      let e = starts_with x (rank_of f b x) in
      record {
        family = refl;
        long = ap length (sym e);
        right = subst (λ (y : Bytes). Right f b (kept y (rank_of f b x))) (sym e) (passed-right x pass);
      }

  -- an object of a family whose count fits starts a walk
  pub starts : (x : Bytes) → is_object f b x ≡ true → count_of f b < 2 ^ 64
      → ◌≡◌ {A = Answer × Walk} (start_of f b x) (RANKED (rank_of f b x), walk_at f x (rank_of f b x))
  unfolding start_of started_by
  starts x o fits = rw (o, rank_passes f b (length x) (opens_for f b x o) fits ((lawful f b).long x o))

  started : (x : Bytes) (o : Option ℕ) {r : ℕ} {w : Walk} → ◌≡◌ {A = Answer × Walk} (started_by o f x (rank_of f b x)) (RANKED r, w)
      → (o ≡ none) × (walk_at f x (rank_of f b x) ≡ w)
  unfolding started_by
  started x none e = (refl, ap (λ (s : Answer × Walk). s.1) e)
  started x (some q) e = let t = ap (λ (s : Answer × Walk). s.0) e in let z : ◌≡◌ {A = ℕ} 0 1 = cc in absurd (omega arith)

  pub start_sound : (x : Bytes) {r : ℕ} {w : Walk} → ◌≡◌ {A = Answer × Walk} (start_of f b x) (RANKED r, w) → Sound f b w
  unfolding start_of
  start_sound x e = let t = started x (refusal RANK f b (length x) (is_object f b x)) e in subst (Sound f b) t.1 (sound_at x t.0)

  pub start_keeps : (x : Bytes) {r : ℕ} {w : Walk} → ◌≡◌ {A = Answer × Walk} (start_of f b x) (RANKED r, w) → (kept_by w).bytes ≡ x
  unfolding start_of
  start_keeps x e =
      let t = started x (refusal RANK f b (length x) (is_object f b x)) e in
      subst (λ (v : Walk). (kept_by v).bytes ≡ x) t.1 (starts_with x (rank_of f b x))

  -- it answers as RANK does
  pub start-answers : (x : Bytes) → (start_of f b x).0 ≡ (respond RANK f b x).0
  unfolding start_of respond act rank_of started_by judged
  start-answers x = go (refusal RANK f b (length x) (is_object f b x))
    where
      go : (o : Option ℕ) → (started_by o f x (rank_of f b x)).0 ≡ (judged o x (act RANK (comes_before f b) (listing f b) x)).0
      go none = refl
      go (some q) = refl

  -- a step

  gone_right : {k : Kept} {a : Way} {c : Lent} {size : ℕ} {s : Outcome} → Right f b k → (is_object f c k.bytes ≡ true → c ≡ b) → Gone a f c size k s → Right f b s.1
  gone_right h same (missed e) = h
  gone_right h same (ended pass e) = h
  gone_right {k} {a} {c} {size} h same (moved {y} {r} pass e n m) =
      let x = k.bytes in
      let one = same (object_held f c size (is_object f c x) k.number pass) in
      let there = subst (λ (d : Lent). Beside a (listing f d) x y) one n in
      record {
        object = beside-object a f b x y there;
        ranked = some-injective r (rank_of f b y) (sym m ∙ ap (renumbered a) h.ranked ∙ beside_ranks a f b x y there);
        fits = h.fits;
      }
  gone_right h same (numberless pass e n m) = h

  -- one step keeps the number right, whatever lists it is handed, if these are b wherever they have the bytes kept as an object

  pub stays_right : {k : Kept} → Right f b k → (a : Way) (c : Lent) (size : ℕ) → (is_object f c k.bytes ≡ true → c ≡ b) → Right f b (step_kept a f c size k).1
  stays_right {k} h a c size same = gone_right h same (gone a f c size k)

  sound_with : {w : Walk} {k : Kept} → Sound f b w → Right f b k → Sound f b (keep w k)
  unfolding keep
  sound_with {w} {k} s h =
      let long : length k.bytes ≡ w.len = (lawful f b).long k.bytes h.object ∙ sym (s.long ∙ (lawful f b).long (kept_by w).bytes s.right.object) in
      let e = keeps w k long in
      record { family = s.family; long = sym (ap (λ (v : Kept). length v.bytes) e ∙ long); right = subst (Right f b) (sym e) h }

  pub stays_sound : {w : Walk} → Sound f b w → (a : Way) (c : Lent) → (is_object f c (kept_by w).bytes ≡ true → c ≡ b) → Sound f b (step_walk a c w).1
  unfolding step_walk
  stays_sound {w} s a c same =
      subst (λ (g : Family). Sound f b (keep w (step_kept a g c w.len (kept_by w)).1)) (sym s.family)
      (sound_with s (stays_right s.right a c w.len same))

  -- handed b, it is asked nothing that it misses, so it answers as the call does

  asked_passes : {w : Walk} → Sound f b w → misses f b w.len (kept_by w) ≡ none
  unfolding kept_by count_of
  asked_passes {w} s =
      let x = (kept_by w).bytes in
      let o = s.right.object in
      let low : w.number < count_of f b = rw s.right.ranked (at_below (listing f b) (rank_of f b x) (object_at_rank f b x o)) in
      number_passes f b w.len (is_object f b x) w.number low
      ∙ rw o (rank_passes f b w.len (opens_for f b x o) s.right.fits (s.long ∙ (lawful f b).long x o))

  gone_unrefused : {w : Walk} {a : Way} {s : Outcome} → Sound f b w → Gone a f b w.len (kept_by w) s → (q : ℕ) → s.0 ≡ REFUSED q → ⊥
  unfolding kept_by
  gone_unrefused h (missed {q} e) p t = some-ne-none q (sym e ∙ asked_passes h)
  gone_unrefused h (ended pass e) q t = let z : ◌≡◌ {A = ℕ} 0 1 = cc in omega arith
  gone_unrefused h (moved pass e n m) q t = let z : ◌≡◌ {A = ℕ} 0 1 = cc in omega arith
  gone_unrefused {w} {a} h (numberless {y} pass e n m) q t =
      some-ne-none (rank_of f b y) (sym (ap (renumbered a) h.right.ranked ∙ beside_ranks a f b (kept_by w).bytes y n) ∙ m)

  pub unrefused : {w : Walk} → Sound f b w → (a : Way) (q : ℕ) → (step_walk a b w).0 ≡ REFUSED q → ⊥
  unfolding step_walk
  unrefused {w} s a =
      subst (λ (g : Family). (q : ℕ) → (step_kept a g b w.len (kept_by w)).0 ≡ REFUSED q → ⊥) (sym s.family)
      (gone_unrefused s (gone a f b w.len (kept_by w)))

  pub one_step_lem : {w : Walk} → Sound f b w → (a : Way) → said (step_walk a b w) ≡ respond (call_of a) f b (kept_by w).bytes
  one_step_lem {w} s a = rw (← s.family) (as_plain_call w a b (unrefused s a))

  -- a list of steps

  -- all handed lists are b wherever they have an object of b as theirs
  abbrev Agreed : List Handed → Type 0
  Agreed [] = Unit
  Agreed (h ∷ hs) = ((x : Bytes) → is_object f b x ≡ true → is_object f h.1 x ≡ true → h.1 ≡ b) × Agreed hs

  agreed_any : (hs : List Handed) → Agreed hs
  agreed_any [] = tt
  agreed_any (h ∷ hs) = (one_list f b h.1, agreed_any hs)

  agreed_alike : (ways : List Way) → Agreed (alike b ways)
  agreed_alike [] = tt
  agreed_alike (a ∷ ways) = ((λ x o p. refl), agreed_alike ways)

  walked_sound : {w : Walk} → Sound f b w → (hs : List Handed) → Agreed hs → Sound f b (walked w hs)
  unfolding walked
  walked_sound s [] g = s
  walked_sound {w} s (h ∷ hs) g = walked_sound {w = (step_walk h.0 h.1 w).1} (stays_sound s h.0 h.1 (g.0 (kept_by w).bytes s.right.object)) hs g.1

  lent-right : {k : Kept} → Right f b k → (hs : List Handed) → Agreed hs → Right f b (walked_lent f k hs)
  unfolding walked_lent
  lent-right s [] g = s
  lent-right {k} s (h ∷ hs) g = lent-right {k = (step_kept h.0 f h.1 (length k.bytes) k).1} (stays_right s h.0 h.1 (length k.bytes) (g.0 k.bytes s.object)) hs g.1

  said_so : {w : Walk} → Sound f b w → (ways : List Way) → map said (steps w (alike b ways)) ≡ run (map call_of ways) f b (kept_by w).bytes
  unfolding steps run responses
  said_so s [] = refl
  said_so {w} s (a ∷ ways) =
      let later = said_so {w = (step_walk a b w).1} (stays_sound s a b (λ o. refl)) ways in
      ap (λ (t : Said). t ∷ map said (steps (step_walk a b w).1 (alike b ways))) (one_step_lem s a)
      ∙ ap (λ (l : List Said). respond (call_of a) f b (kept_by w).bytes ∷ l) (later ∙ ap (λ (t : Said). run (map call_of ways) f b t.1) (one_step_lem s a))

  -- from a start
  module _ (x : Bytes) {r : ℕ} {w : Walk} (start : ◌≡◌ {A = Answer × Walk} (start_of f b x) (RANKED r, w)) where
    -- "every list of steps": the number kept is the rank of the bytes kept, whatever lists each step is handed
    pub number-is_rank : (hs : List Handed)
        → respond RANK f b (kept_by (walked w hs)).bytes ≡ (RANKED (walked w hs).number, (kept_by (walked w hs)).bytes)
    number-is_rank hs = sound_answers (walked_sound (start_sound x start) hs (agreed_any hs))

    -- so a run leaves such a walk
    pub run-number-is_rank : (c : Lent) (on : List Bool) (answers : Bytes)
        → respond RANK f b (kept_by (run_of w c on answers).0).bytes ≡ (RANKED (run_of w c on answers).0.number, (kept_by (run_of w c on answers).0).bytes)
    run-number-is_rank c on answers =
        rw (run_walks w c on answers) (number-is_rank (map {B = Handed} (λ (v : Bool). (way_of v, c)) (take (length answers) on)))

    -- where each is handed b, this needs no law of the kinds
    pub number-is_rank_alike : (ways : List Way)
        → respond RANK f b (kept_by (walked w (alike b ways))).bytes ≡ (RANKED (walked w (alike b ways)).number, (kept_by (walked w (alike b ways))).bytes)
    number-is_rank_alike ways = sound_answers (walked_sound (start_sound x start) (alike b ways) (agreed_alike ways))

    -- then no further step is refused
    pub none_refused : (ways : List Way) (a : Way) (q : ℕ) → (step_walk a b (walked w (alike b ways))).0 ≡ REFUSED q → ⊥
    none_refused ways = unrefused (walked_sound (start_sound x start) (alike b ways) (agreed_alike ways))

    -- and the steps are the plain calls on a buffer that holds x
    pub walk_is_the_calls : (ways : List Way) → map said (steps w (alike b ways)) ≡ run (map call_of ways) f b x
    walk_is_the_calls ways = said_so (start_sound x start) ways ∙ ap (run (map call_of ways) f b) (start_keeps x start)

    -- and the marker on the listing
    pub walk_is_the_marker : (ways : List Way) → map said (steps w (alike b ways)) ≡ marker (map call_of ways) f b x
    walk_is_the_marker ways = walk_is_the_calls ways ∙ calls_are_the_marker f b x (map call_of ways)

  -- steps on lent bytes, from the number that RANK answered
  pub lent-number-is_rank : (x : Bytes) {r : ℕ} → respond RANK f b x ≡ (RANKED r, x) → (hs : List Handed)
      → respond RANK f b (walked_lent f (kept x r) hs).bytes ≡ (RANKED (walked_lent f (kept x r) hs).number, (walked_lent f (kept x r) hs).bytes)
  lent-number-is_rank x e hs = right-answers (lent-right (ranked-right x e) hs (agreed_any hs))
