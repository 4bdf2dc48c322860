-- The derangement of a key and a smaller one is a derangement and is taken apart into them again; and every derangement of two places or more is made so.
-- Said of functions first (1 .. n, as the images), then of byte strings. Assumes nothing.
use mathlib.Core.Path.{◌≡◌, refl, sym, ◌∙◌, ap}
use mathlib.Core.Bool.{true, false, cond}
use Prim.Native.Nat.{ℕ, suc, ◌+◌, ◌-◌, ◌≤◌, ◌<◌}
use native.Mathlib.Decide.{dec_lt, ℕ_discrete}
use native.Mathlib.Omega.{arith}
use lib.Dec.{eqb}
use borrow.Author.Tests.{eqb-true, eqb-false, eq-eqb, ne_eqb, lt-ltb, le-ltb, le-leb, lt-leb}
use Rattle.listings.specs.Bytes.{Bytes}
use Rattle.derangements.specs.Cycles.{image, images, paired, cut, lowered, raised, unpair}
use Rattle.derangements.specs.Objects.{key_of}
use Rattle.derangements.specs.Listing.{splice, pair}
use Rattle.derangements.proofs.Images.{Among, images-long, image_of, same-images, Deranges, Deranged, images_deranged}

-- labels moved up from c on, and down again

pub data Raised (c i v : ℕ) : Type 0 where
  below : i < c → v ≡ i → Raised c i v
  above : c ≤ i → v ≡ suc i → Raised c i v

pub raised_as : (c i : ℕ) → Raised c i (raised c i)
unfolding raised
raised_as c i = elim (dec_lt i c) [ yes h ↦ below h (ap (λ t. cond t (suc i) i) (lt-leb c i h)) | no h ↦ above (omega arith) (ap (λ t. cond t (suc i) i) (le-leb c i (omega arith))) ]

pub data Lowered (c i v : ℕ) : Type 0 where
  above : c < i → v ≡ i - 1 → Lowered c i v
  below : i ≤ c → v ≡ i → Lowered c i v

pub lowered_as : (c i : ℕ) → Lowered c i (lowered c i)
unfolding lowered
lowered_as c i = elim (dec_lt c i) [ yes h ↦ above h (ap (λ t. cond t (i - 1) i) (lt-ltb c i h)) | no h ↦ below (omega arith) (ap (λ t. cond t (i - 1) i) (le-ltb c i (omega arith))) ]

pub raised_among : (m c i : ℕ) → Among m i → Among (suc m) (raised c i)
raised_among m c i a = step (raised_as c i)
  where
    step : Raised c i (raised c i) → Among (suc m) (raised c i)
    step (below h e) = omega (arith, a)
    step (above h e) = omega (arith, a)

pub raised_off : (c i : ℕ) → raised c i ≡ c → ⊥
raised_off c i q = step (raised_as c i)
  where
    step : Raised c i (raised c i) → ⊥
    step (below h e) = omega arith
    step (above h e) = omega arith

raised_once : (c i j : ℕ) → raised c i ≡ raised c j → i ≡ j
raised_once c i j q = step (raised_as c i) (raised_as c j)
  where
    step : Raised c i (raised c i) → Raised c j (raised c j) → i ≡ j
    step (below h e) (below k f) = omega arith
    step (below h e) (above k f) = omega arith
    step (above h e) (below k f) = omega arith
    step (above h e) (above k f) = omega arith

lowered-raised : (c i : ℕ) → lowered c (raised c i) ≡ i
lowered-raised c i = step (raised_as c i) (lowered_as c (raised c i))
  where
    step : Raised c i (raised c i) → Lowered c (raised c i) (lowered c (raised c i)) → lowered c (raised c i) ≡ i
    step (below h e) (above k f) = omega arith
    step (below h e) (below k f) = omega arith
    step (above h e) (above k f) = omega arith
    step (above h e) (below k f) = omega arith

raised-lowered : (c i : ℕ) → (i ≡ c → ⊥) → raised c (lowered c i) ≡ i
raised-lowered c i n = step (lowered_as c i) (raised_as c (lowered c i))
  where
    step : Lowered c i (lowered c i) → Raised c (lowered c i) (raised c (lowered c i)) → raised c (lowered c i) ≡ i
    step (above h e) (below k f) = omega arith
    step (above h e) (above k f) = omega arith
    step (below h e) (below k f) = omega arith
    step (below h e) (above k f) = omega arith

pub lowered_among : (m c i : ℕ) → Among (suc m) c → (i ≡ c → ⊥) → Among (suc m) i → Among m (lowered c i)
lowered_among m c i a n b = step (lowered_as c i)
  where
    step : Lowered c i (lowered c i) → Among m (lowered c i)
    step (above h e) = omega (arith, a, b)
    step (below h e) = omega (arith, a, b)

lowered_once : (c i j : ℕ) → (i ≡ c → ⊥) → (j ≡ c → ⊥) → lowered c i ≡ lowered c j → i ≡ j
lowered_once c i j n m e = sym (raised-lowered c i n) ∙ ap (raised c) e ∙ raised-lowered c j m

-- n put into the cycle of c, of functions

abbrev pub spliced : ℕ → ℕ → (ℕ → ℕ) → ℕ → ℕ
spliced n c f i = cond (eqb i n) c (cond (eqb (f i) c) n (f i))

module _ (n c : ℕ) (f : ℕ → ℕ) (i : ℕ) where
  spliced_end : i ≡ n → spliced n c f i ≡ c
  spliced_end e = rw (eq-eqb i n e)

  spliced_to : (i ≡ n → ⊥) → f i ≡ c → spliced n c f i ≡ n
  spliced_to p e = rw (ne_eqb i n p, eq-eqb (f i) c e)

  spliced_other : (i ≡ n → ⊥) → (f i ≡ c → ⊥) → spliced n c f i ≡ f i
  spliced_other p q = rw (ne_eqb i n p, ne_eqb (f i) c q)

  pub data Spliced : Type 0 where
    at_end_lem : i ≡ n → spliced n c f i ≡ c → Spliced
    to_end : (i ≡ n → ⊥) → f i ≡ c → spliced n c f i ≡ n → Spliced
    other : (i ≡ n → ⊥) → (f i ≡ c → ⊥) → spliced n c f i ≡ f i → Spliced

  pub spliced_as : Spliced
  spliced_as = step (ℕ_discrete i n) (ℕ_discrete (f i) c)
    where
      step : Dec (i ≡ n) → Dec (f i ≡ c) → Spliced
      step (yes e) _ = at_end_lem e (spliced_end e)
      step (no p) (yes e) = to_end p e (spliced_to p e)
      step (no p) (no q) = other p q (spliced_other p q)

module _ (m c : ℕ) (f : ℕ → ℕ) (a : Among m c) (d : Deranges m f) where
  abbrev n₁ : ℕ
  n₁ = suc m

  abbrev g₁ : ℕ → ℕ
  g₁ = spliced (suc m) c f

  less : (i : ℕ) → Among n₁ i → (i ≡ n₁ → ⊥) → Among m i
  less i b p = omega (arith, b, p)

  splice_values : (i : ℕ) → Among n₁ i → Spliced n₁ c f i → Among n₁ (g₁ i)
  splice_values i b (at_end_lem e v) = omega (arith, a, v)
  splice_values i b (to_end p e v) = omega (arith, v)
  splice_values i b (other p q v) = omega (arith, d.values i (less i b p), v)

  splice-moves : (i : ℕ) → Among n₁ i → g₁ i ≡ i → Spliced n₁ c f i → ⊥
  splice-moves i b e (at_end_lem q v) = omega (arith, a, e, q, v)
  splice-moves i b e (to_end p q v) = p (sym e ∙ v)
  splice-moves i b e (other p q v) = d.moves i (less i b p) (sym v ∙ e)

  splice_once : (i j : ℕ) → Among n₁ i → Among n₁ j → g₁ i ≡ g₁ j → Spliced n₁ c f i → Spliced n₁ c f j → i ≡ j
  splice_once i j b k e (at_end_lem q v) (at_end_lem r w) = q ∙ sym r
  splice_once i j b k e (at_end_lem q v) (to_end p r w) = omega (arith, a, e, v, w)
  splice_once i j b k e (at_end_lem q v) (other p r w) = absurd (r (sym w ∙ sym e ∙ v))
  splice_once i j b k e (to_end p q v) (at_end_lem r w) = omega (arith, a, e, v, w)
  splice_once i j b k e (to_end p q v) (to_end p' r w) = d.once i j (less i b p) (less j k p') (q ∙ sym r)
  splice_once i j b k e (to_end p q v) (other p' r w) = omega (arith, d.values j (less j k p'), e, v, w)
  splice_once i j b k e (other p q v) (at_end_lem r w) = absurd (q (sym v ∙ e ∙ w))
  splice_once i j b k e (other p q v) (to_end p' r w) = omega (arith, d.values i (less i b p), e, v, w)
  splice_once i j b k e (other p q v) (other p' r w) = d.once i j (less i b p) (less j k p') (sym v ∙ e ∙ w)

  splice_onto : (v : ℕ) → Among n₁ v → Dec (v ≡ c) → Dec (v ≡ n₁) → (i : ℕ) × Among n₁ i × (g₁ i ≡ v)
  splice_onto v b (yes e) _ = (n₁, omega arith, spliced_end n₁ c f n₁ refl ∙ sym e)
  splice_onto v b (no p) (yes e) = let (i, k, q) = d.onto c a in (i, omega (arith, k), spliced_to n₁ c f i (λ r. omega (arith, k, r)) q ∙ sym e)
  splice_onto v b (no p) (no q) = let (i, k, e) = d.onto v (less v b q) in (i, omega (arith, k), spliced_other n₁ c f i (λ r. omega (arith, k, r)) (λ r. p (sym e ∙ r)) ∙ e)

  splice_deranges : Deranges n₁ g₁
  splice_deranges = record {
    values = λ i b. splice_values i b (spliced_as n₁ c f i);
    moves = λ i b e. splice-moves i b e (spliced_as n₁ c f i);
    once = λ i j b k e. splice_once i j b k e (spliced_as n₁ c f i) (spliced_as n₁ c f j);
    onto = λ v b. splice_onto v b (ℕ_discrete v c) (ℕ_discrete v n₁);
  }

-- and cut out of it

abbrev pub without : ℕ → (ℕ → ℕ) → ℕ → ℕ
without n f i = cond (eqb (f i) n) (f n) (f i)

module _ (n : ℕ) (f : ℕ → ℕ) (i : ℕ) where
  pub without_to : f i ≡ n → without n f i ≡ f n
  without_to e = rw (eq-eqb (f i) n e)

  pub without_other : (f i ≡ n → ⊥) → without n f i ≡ f i
  without_other p = rw (ne_eqb (f i) n p)

module _ (m : ℕ) (f : ℕ → ℕ) (d : Deranges (suc m) f) (far : f (f (suc m)) ≡ suc m → ⊥) (some : 1 ≤ m) where
  abbrev n₂ : ℕ
  n₂ = suc m

  abbrev g₂ : ℕ → ℕ
  g₂ = without (suc m) f

  end : Among n₂ n₂
  end = omega arith

  more : (i : ℕ) → Among m i → Among n₂ i
  more i b = omega (arith, b)

  -- c is one of the others
  pub cut_key : Among m (f n₂)
  cut_key = let v = d.values n₂ end in let p = d.moves n₂ end in omega (arith, v, p)

  cut_values : (i : ℕ) → Among m i → Dec (f i ≡ n₂) → Among m (g₂ i)
  cut_values i b (yes e) = rw (without_to n₂ f i e) cut_key
  cut_values i b (no p) = rw (without_other n₂ f i p) (omega (arith, d.values i (more i b), p))

  cut-moves : (i : ℕ) → Among m i → g₂ i ≡ i → Dec (f i ≡ n₂) → ⊥
  cut-moves i b e (yes q) = far (ap f (sym (without_to n₂ f i q) ∙ e) ∙ q)
  cut-moves i b e (no p) = d.moves i (more i b) (sym (without_other n₂ f i p) ∙ e)

  -- what goes to c is n
  to_key : (i : ℕ) → Among m i → f i ≡ f n₂ → ⊥
  to_key i b e = omega (arith, b, d.once i n₂ (more i b) end e)

  cut_once : (i j : ℕ) → Among m i → Among m j → g₂ i ≡ g₂ j → Dec (f i ≡ n₂) → Dec (f j ≡ n₂) → i ≡ j
  cut_once i j b k e (yes q) (yes r) = d.once i j (more i b) (more j k) (q ∙ sym r)
  cut_once i j b k e (yes q) (no r) = absurd (to_key j k (sym (without_other n₂ f j r) ∙ sym e ∙ without_to n₂ f i q))
  cut_once i j b k e (no q) (yes r) = absurd (to_key i b (sym (without_other n₂ f i q) ∙ e ∙ without_to n₂ f j r))
  cut_once i j b k e (no q) (no r) = d.once i j (more i b) (more j k) (sym (without_other n₂ f i q) ∙ e ∙ without_other n₂ f j r)

  cut_onto : (v : ℕ) → Among m v → Dec (v ≡ f n₂) → (i : ℕ) × Among m i × (g₂ i ≡ v)
  cut_onto v b (yes e) =
      let (i, k, q) = d.onto n₂ end in
      let p : i ≡ n₂ → ⊥ = λ r. d.moves i k (q ∙ sym r) in
      (i, omega (arith, k, p), without_to n₂ f i q ∙ sym e)
  cut_onto v b (no n) =
      let (i, k, q) = d.onto v (more v b) in
      let p : i ≡ n₂ → ⊥ = λ r. n (sym q ∙ ap f r) in
      (i, omega (arith, k, p), without_other n₂ f i (λ r. omega (arith, b, q, r)) ∙ q)

  cut_deranges : Deranges m g₂
  cut_deranges = record {
    values = λ i b. cut_values i b (ℕ_discrete (f i) n₂);
    moves = λ i b e. cut-moves i b e (ℕ_discrete (f i) n₂);
    once = λ i j b k e. cut_once i j b k e (ℕ_discrete (f i) n₂) (ℕ_discrete (f j) n₂);
    onto = λ v b. cut_onto v b (ℕ_discrete v (f n₂));
  }

-- c and n in a cycle of two, of functions

abbrev pub with_pair : ℕ → ℕ → (ℕ → ℕ) → ℕ → ℕ
with_pair n c f i = cond (eqb i n) c (cond (eqb i c) n (raised c (f (lowered c i))))

module _ (n c : ℕ) (f : ℕ → ℕ) (i : ℕ) where
  pair_end : i ≡ n → with_pair n c f i ≡ c
  pair_end e = rw (eq-eqb i n e)

  pair-there : (i ≡ n → ⊥) → i ≡ c → with_pair n c f i ≡ n
  pair-there p e = rw (ne_eqb i n p, eq-eqb i c e)

  pair_other : (i ≡ n → ⊥) → (i ≡ c → ⊥) → with_pair n c f i ≡ raised c (f (lowered c i))
  pair_other p q = rw (ne_eqb i n p, ne_eqb i c q)

  pub data Pairs : Type 0 where
    at_end_lem : i ≡ n → with_pair n c f i ≡ c → Pairs
    there : (i ≡ n → ⊥) → i ≡ c → with_pair n c f i ≡ n → Pairs
    other : (i ≡ n → ⊥) → (i ≡ c → ⊥) → with_pair n c f i ≡ raised c (f (lowered c i)) → Pairs

  pub pair_as : Pairs
  pair_as = step (ℕ_discrete i n) (ℕ_discrete i c)
    where
      step : Dec (i ≡ n) → Dec (i ≡ c) → Pairs
      step (yes e) _ = at_end_lem e (pair_end e)
      step (no p) (yes e) = there p e (pair-there p e)
      step (no p) (no q) = other p q (pair_other p q)

module _ (m c : ℕ) (f : ℕ → ℕ) (a : Among (suc m) c) (d : Deranges m f) where
  abbrev n₃ : ℕ
  n₃ = suc (suc m)

  abbrev g₃ : ℕ → ℕ
  g₃ = with_pair (suc (suc m)) c f

  down : (i : ℕ) → Among n₃ i → (i ≡ n₃ → ⊥) → (i ≡ c → ⊥) → Among m (lowered c i)
  down i b p q = lowered_among m c i a q (omega (arith, b, p))

  -- an image of the others
  up : (i : ℕ) → Among n₃ i → (i ≡ n₃ → ⊥) → (i ≡ c → ⊥) → Among (suc m) (raised c (f (lowered c i)))
  up i b p q = raised_among m c (f (lowered c i)) (d.values (lowered c i) (down i b p q))

  pair_values : (i : ℕ) → Among n₃ i → Pairs n₃ c f i → Among n₃ (g₃ i)
  pair_values i b (at_end_lem e v) = omega (arith, a, v)
  pair_values i b (there p e v) = omega (arith, v)
  pair_values i b (other p q v) = omega (arith, up i b p q, v)

  pair-moves : (i : ℕ) → Among n₃ i → g₃ i ≡ i → Pairs n₃ c f i → ⊥
  pair-moves i b e (at_end_lem q v) = omega (arith, a, e, q, v)
  pair-moves i b e (there p q v) = p (sym e ∙ v)
  pair-moves i b e (other p q v) = d.moves (lowered c i) (down i b p q) (raised_once c (f (lowered c i)) (lowered c i) (sym v ∙ e ∙ sym (raised-lowered c i q)))

  pair_once : (i j : ℕ) → Among n₃ i → Among n₃ j → g₃ i ≡ g₃ j → Pairs n₃ c f i → Pairs n₃ c f j → i ≡ j
  pair_once i j b k e (at_end_lem q v) (at_end_lem r w) = q ∙ sym r
  pair_once i j b k e (at_end_lem q v) (there p r w) = omega (arith, a, e, v, w)
  pair_once i j b k e (at_end_lem q v) (other p r w) = absurd (raised_off c (f (lowered c j)) (sym w ∙ sym e ∙ v))
  pair_once i j b k e (there p q v) (at_end_lem r w) = omega (arith, a, e, v, w)
  pair_once i j b k e (there p q v) (there p' r w) = q ∙ sym r
  pair_once i j b k e (there p q v) (other p' r w) = omega (arith, up j k p' r, e, v, w)
  pair_once i j b k e (other p q v) (at_end_lem r w) = absurd (raised_off c (f (lowered c i)) (sym v ∙ e ∙ w))
  pair_once i j b k e (other p q v) (there p' r w) = omega (arith, up i b p q, e, v, w)
  pair_once i j b k e (other p q v) (other p' r w) = lowered_once c i j q r (d.once (lowered c i) (lowered c j) (down i b p q) (down j k p' r) (raised_once c (f (lowered c i)) (f (lowered c j)) (sym v ∙ e ∙ w)))

  pair_onto : (v : ℕ) → Among n₃ v → Dec (v ≡ c) → Dec (v ≡ n₃) → (i : ℕ) × Among n₃ i × (g₃ i ≡ v)
  pair_onto v b (yes e) _ = (n₃, omega arith, pair_end n₃ c f n₃ refl ∙ sym e)
  pair_onto v b (no p) (yes e) = (c, omega (arith, a), pair-there n₃ c f c (λ r. omega (arith, a, r)) refl ∙ sym e)
  pair_onto v b (no p) (no q) =
      let (j, k, e) = d.onto (lowered c v) (down v b q p) in
      let i : ℕ = raised c j in
      let r = raised_among m c j k in
      (i, omega (arith, r), pair_other n₃ c f i (λ s. omega (arith, r, s)) (raised_off c j) ∙ ap (λ u. raised c (f u)) (lowered-raised c j) ∙ ap (raised c) e ∙ raised-lowered c v p)

  pair_deranges : Deranges n₃ g₃
  pair_deranges = record {
    values = λ i b. pair_values i b (pair_as n₃ c f i);
    moves = λ i b e. pair-moves i b e (pair_as n₃ c f i);
    once = λ i j b k e. pair_once i j b k e (pair_as n₃ c f i) (pair_as n₃ c f j);
    onto = λ v b. pair_onto v b (ℕ_discrete v c) (ℕ_discrete v n₃);
  }

-- and removed

abbrev pub without_pair : ℕ → (ℕ → ℕ) → ℕ → ℕ
without_pair c f i = lowered c (f (raised c i))

module _ (m c : ℕ) (f : ℕ → ℕ) (d : Deranges (suc (suc m)) f) (to : f (suc (suc m)) ≡ c) (back : f c ≡ suc (suc m)) where
  abbrev n₄ : ℕ
  n₄ = suc (suc m)

  abbrev g₄ : ℕ → ℕ
  g₄ = without_pair c f

  last : Among n₄ n₄
  last = omega arith

  pub unpair_key : Among (suc m) c
  unpair_key = let v = d.values n₄ last in let p = d.moves n₄ last in omega (arith, v, p, to)

  -- the others
  raised_other : (i : ℕ) → Among m i → Among n₄ (raised c i)
  raised_other i b = omega (arith, raised_among m c i b)

  keyed : Among n₄ c
  keyed = omega (arith, unpair_key)

  -- go to others
  image_other : (i : ℕ) → Among n₄ i → (i ≡ n₄ → ⊥) → (i ≡ c → ⊥) → Among (suc m) (f i) × (f i ≡ c → ⊥)
  image_other i b p q =
      let v = d.values i b in
      let r : f i ≡ n₄ → ⊥ = λ e. q (d.once i c b keyed (e ∙ sym back)) in
      (omega (arith, v, r), λ e. p (d.once i n₄ b last (e ∙ sym to)))

  raised-image : (i : ℕ) → Among m i → Among (suc m) (f (raised c i)) × (f (raised c i) ≡ c → ⊥)
  raised-image i b = image_other (raised c i) (raised_other i b) (λ e. omega (arith, raised_among m c i b, e)) (raised_off c i)

  unpair_deranges : Deranges m g₄
  unpair_deranges = record {
    values = λ i b. let (v, p) = raised-image i b in lowered_among m c (f (raised c i)) unpair_key p v;
    moves = λ i b e.
        let (v, p) = raised-image i b in
        d.moves (raised c i) (raised_other i b) (lowered_once c (f (raised c i)) (raised c i) p (raised_off c i) (e ∙ sym (lowered-raised c i)));
    once = λ i j b k e.
        let (v, p) = raised-image i b in
        let (w, q) = raised-image j k in
        raised_once c i j (d.once (raised c i) (raised c j) (raised_other i b) (raised_other j k) (lowered_once c (f (raised c i)) (f (raised c j)) p q e));
    onto = λ v b. unpair_onto v b;
  }
    where
      unpair_onto : (v : ℕ) → Among m v → (i : ℕ) × Among m i × (g₄ i ≡ v)
      unpair_onto v b =
          let (j, k, e) = d.onto (raised c v) (raised_other v b) in
          let p : j ≡ n₄ → ⊥ = λ r. raised_off c v (sym e ∙ ap f r ∙ to) in
          let q : j ≡ c → ⊥ = λ r. omega (arith, raised_among m c v b, sym e ∙ ap f r ∙ back) in
          (lowered c j, lowered_among m c j unpair_key q (omega (arith, k, p)), ap (λ u. lowered c (f u)) (raised-lowered c j q) ∙ ap (lowered c) e ∙ lowered-raised c v)

  -- put back, they are what they were
  pub pair_again : (i : ℕ) → Among n₄ i → with_pair n₄ c g₄ i ≡ f i
  pair_again i b = step (pair_as n₄ c g₄ i)
    where
      step : Pairs n₄ c g₄ i → with_pair n₄ c g₄ i ≡ f i
      step (at_end_lem e v) = v ∙ sym to ∙ ap f (sym e)
      step (there p e v) = v ∙ sym back ∙ ap f (sym e)
      step (other p q v) = v ∙ ap (λ u. raised c (lowered c (f u))) (raised-lowered c i q) ∙ raised-lowered c (f i) (image_other i b p q).1

-- of byte strings, with n = m + 2 places

module _ (m : ℕ) where
  abbrev n : ℕ
  n = suc (suc m)

  pub splice-is : (c : ℕ) (x : Bytes) → splice n c x ≡ images n (spliced n c (image x))
  unfolding splice
  splice-is c x = refl

  pub cut-is : (y : Bytes) → cut n y ≡ images (suc m) (without n (image y))
  unfolding cut
  cut-is y = ap (λ k. images k (without n (image y))) (omega arith)

  pub pair_is : (c : ℕ) (x : Bytes) → pair n c x ≡ images n (with_pair n c (image x))
  unfolding pair
  pair_is c x = refl

  pub unpair-is : (y : Bytes) → unpair n y ≡ images m (without_pair (image y n) (image y))
  unfolding unpair
  unpair-is y = ap (λ k. images k (without_pair (image y n) (image y))) (omega arith)

  pub is-paired : (y : Bytes) → image y (image y n) ≡ n → paired n y ≡ true
  unfolding paired
  is-paired y e = eq-eqb _ _ e

  pub not-paired : (y : Bytes) → (image y (image y n) ≡ n → ⊥) → paired n y ≡ false
  unfolding paired
  not-paired y p = ne_eqb _ _ p

  paired_means : (y : Bytes) → paired n y ≡ true → image y (image y n) ≡ n
  unfolding paired
  paired_means y e = eqb-true _ _ e

  unpaired_means : (y : Bytes) → paired n y ≡ false → image y (image y n) ≡ n → ⊥
  unfolding paired
  unpaired_means y e = eqb-false _ _ e

  key_unpaired : (y : Bytes) → paired n y ≡ false → key_of n y ≡ image y n
  unfolding key_of
  key_unpaired y e = rw e

  key_paired : (y : Bytes) → paired n y ≡ true → key_of n y ≡ suc m + image y n
  unfolding key_of
  key_paired y e = rw e (omega arith)

  -- n put into a cycle
  module _ (c : ℕ) (x : Bytes) (a : Among (suc m) c) (d : Deranged (suc m) x) where
    abbrev y₁ : Bytes
    y₁ = splice n c x

    spliced_image : (i : ℕ) → Among n i → image y₁ i ≡ spliced n c (image x) i
    spliced_image i b = ap (λ y. image y i) (splice-is c x) ∙ image_of n (spliced n c (image x)) i b

    spliced_last : image y₁ n ≡ c
    spliced_last = spliced_image n (omega arith) ∙ spliced_end n c (image x) n refl

    pub splice_deranged : Deranged n y₁
    splice_deranged = rw (splice-is c x) (images_deranged n (spliced n c (image x)) (splice_deranges (suc m) c (image x) a d.by))

    pub splice_unpaired : paired n y₁ ≡ false
    splice_unpaired =
        not-paired y₁ (λ e.
        let there : image y₁ c ≡ image x c = spliced_image c (omega (arith, a)) ∙ spliced_other n c (image x) c (λ r. omega (arith, a, r)) (d.by.moves c a) in
        omega (arith, d.by.values c a, sym there ∙ ap (image y₁) (sym spliced_last) ∙ e))

    pub splice_key : key_of n y₁ ≡ c
    splice_key = key_unpaired y₁ splice_unpaired ∙ spliced_last

    pub cut-splice : cut n y₁ ≡ x
    cut-splice = rw (cut-is y₁) (same-images (suc m) (images (suc m) (without n (image y₁))) x (images-long (suc m) (without n (image y₁))) d.long (λ i b. image_of (suc m) (without n (image y₁)) i b ∙ same i b (spliced_as n c (image x) i)))
      where
        same : (i : ℕ) → Among (suc m) i → Spliced n c (image x) i → without n (image y₁) i ≡ image x i
        same i b (at_end_lem e v) = absurd (omega (arith, b, e))
        same i b (to_end p e v) = without_to n (image y₁) i (spliced_image i (omega (arith, b)) ∙ v) ∙ spliced_last ∙ sym e
        same i b (other p q v) =
            let is : image y₁ i ≡ image x i = spliced_image i (omega (arith, b)) ∙ v in
            without_other n (image y₁) i (λ r. omega (arith, d.by.values i b, sym is ∙ r)) ∙ is

  -- n cut out of its cycle
  module _ (y : Bytes) (d : Deranged n y) (apart : paired n y ≡ false) where
    abbrev c₂ : ℕ
    c₂ = image y n

    pub cut_among : Among (suc m) c₂
    cut_among = cut_key (suc m) (image y) d.by (unpaired_means y apart) (omega arith)

    pub cut_deranged : Deranged (suc m) (cut n y)
    cut_deranged = rw (cut-is y) (images_deranged (suc m) (without n (image y)) (cut_deranges (suc m) (image y) d.by (unpaired_means y apart) (omega arith)))

    cut-image : (i : ℕ) → Among (suc m) i → image (cut n y) i ≡ without n (image y) i
    cut-image i b = ap (λ z. image z i) (cut-is y) ∙ image_of (suc m) (without n (image y)) i b

    pub splice_cut : splice n c₂ (cut n y) ≡ y
    splice_cut = rw (splice-is c₂ (cut n y)) (same-images n (images n (spliced n c₂ (image (cut n y)))) y (images-long n (spliced n c₂ (image (cut n y)))) d.long (λ i b. image_of n (spliced n c₂ (image (cut n y))) i b ∙ same i b (spliced_as n c₂ (image (cut n y)) i) (ℕ_discrete (image y i) n)))
      where
        same : (i : ℕ) → Among n i → Spliced n c₂ (image (cut n y)) i → Dec (image y i ≡ n) → spliced n c₂ (image (cut n y)) i ≡ image y i
        same i b (at_end_lem e v) _ = v ∙ ap (image y) (sym e)
        same i b (to_end p e v) (yes q) = v ∙ sym q
        same i b (to_end p e v) (no q) = absurd (to_key (suc m) (image y) d.by (unpaired_means y apart) (omega arith) i (omega (arith, b, p)) (sym (without_other n (image y) i q) ∙ sym (cut-image i (omega (arith, b, p))) ∙ e))
        same i b (other p r v) (yes q) = absurd (r (cut-image i (omega (arith, b, p)) ∙ without_to n (image y) i q))
        same i b (other p r v) (no q) = v ∙ cut-image i (omega (arith, b, p)) ∙ without_other n (image y) i q

  -- c and n in a cycle of two
  module _ (c : ℕ) (x : Bytes) (a : Among (suc m) c) (d : Deranged m x) where
    abbrev y₃ : Bytes
    y₃ = pair n c x

    pair-image : (i : ℕ) → Among n i → image y₃ i ≡ with_pair n c (image x) i
    pair-image i b = ap (λ y. image y i) (pair_is c x) ∙ image_of n (with_pair n c (image x)) i b

    pair-last : image y₃ n ≡ c
    pair-last = pair-image n (omega arith) ∙ pair_end n c (image x) n refl

    pub pair_deranged : Deranged n y₃
    pair_deranged = rw (pair_is c x) (images_deranged n (with_pair n c (image x)) (pair_deranges m c (image x) a d.by))

    pub pair-paired : paired n y₃ ≡ true
    pair-paired = is-paired y₃ (ap (image y₃) pair-last ∙ pair-image c (omega (arith, a)) ∙ pair-there n c (image x) c (λ r. omega (arith, a, r)) refl)

    pub pair_key : key_of n y₃ ≡ suc m + c
    pair_key = key_paired y₃ pair-paired ∙ ap (λ v. suc m + v) pair-last

    pub unpair-pair : unpair n y₃ ≡ x
    unpair-pair =
        unpair-is y₃ ∙ ap (λ v. images m (without_pair v (image y₃))) pair-last
        ∙ same-images m (images m (without_pair c (image y₃))) x (images-long m (without_pair c (image y₃))) d.long (λ i b. image_of m (without_pair c (image y₃)) i b ∙ same i b)
      where
        same : (i : ℕ) → Among m i → without_pair c (image y₃) i ≡ image x i
        same i b =
            let r = raised_among m c i b in
            ap (lowered c) (pair-image (raised c i) (omega (arith, r)) ∙ pair_other n c (image x) (raised c i) (λ e. omega (arith, r, e)) (raised_off c i) ∙ ap (λ j. raised c (image x j)) (lowered-raised c i))
            ∙ lowered-raised c (image x i)

  -- and removed
  module _ (y : Bytes) (d : Deranged n y) (together : paired n y ≡ true) where
    abbrev c₄ : ℕ
    c₄ = image y n

    pub unpair_among : Among (suc m) c₄
    unpair_among = unpair_key m c₄ (image y) d.by refl (paired_means y together)

    pub unpair_deranged : Deranged m (unpair n y)
    unpair_deranged = rw (unpair-is y) (images_deranged m (without_pair c₄ (image y)) (unpair_deranges m c₄ (image y) d.by refl (paired_means y together)))

    pub pair-unpair : pair n c₄ (unpair n y) ≡ y
    pair-unpair = rw (pair_is c₄ (unpair n y)) (same-images n (images n (with_pair n c₄ (image (unpair n y)))) y (images-long n (with_pair n c₄ (image (unpair n y)))) d.long (λ i b. image_of n (with_pair n c₄ (image (unpair n y))) i b ∙ same i b (pair_as n c₄ (image (unpair n y)) i) ∙ pair_again m c₄ (image y) d.by refl (paired_means y together) i b))
      where
        same : (i : ℕ) → Among n i → Pairs n c₄ (image (unpair n y)) i → with_pair n c₄ (image (unpair n y)) i ≡ with_pair n c₄ (without_pair c₄ (image y)) i
        same i b (at_end_lem e v) = v ∙ sym (pair_end n c₄ (without_pair c₄ (image y)) i e)
        same i b (there p e v) = v ∙ sym (pair-there n c₄ (without_pair c₄ (image y)) i p e)
        same i b (other p q v) = v ∙ ap (raised c₄) (ap (λ z. image z (lowered c₄ i)) (unpair-is y) ∙ image_of m (without_pair c₄ (image y)) (lowered c₄ i) (lowered_among m c₄ i unpair_among q (omega (arith, b, p)))) ∙ sym (pair_other n c₄ (without_pair c₄ (image y)) i p q)
