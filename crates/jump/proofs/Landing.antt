-- What a jump answers and leaves, by what RANK and then UNRANK told; each case as the code meets it.
-- Assumes nothing.
use mathlib.Core.Path.{◌≡◌, refl, sym, ◌∙◌, ap}
use mathlib.Core.Option.{none, some}
use Prim.Native.Nat.{ℕ, ◌≤◌, ◌<◌, ◌^◌}
use native.Mathlib.Omega.{arith}
use native.Mathlib.Decide.{dec_lt}
use lib.IntN.{ℤ}
use lib.ListN.{length, get_or}
use Rattle.listings.specs.Bytes.{Bytes}
use Rattle.listings.specs.Calls.{RANK, UNRANK, Answer, REFUSED, WRITTEN, END, Said, judged, act}
use Rattle.listings.proofs.Walks.{passes}
use Rattle.families.specs.declared.Family.{Family}
use Rattle.families.specs.Table.{Lent}
use Rattle.families.specs.Families.{is_object, listing, count_of, rank_of}
use Rattle.families.specs.Questions.{asked, is_in, refusal}
use Rattle.families.specs.Calls.{respond}
use Rattle.families.proofs.Verdicts.{asks_enough, fits-asked, opening-asked, unrank_passes}
use Rattle.families.proofs.Going.{not_written}
use Rattle.families.proofs.Answered.{missed_where_refused, carried_out}
use Rattle.jump.specs.Jumps.{target, jumped, jump}
use Rattle.jump.proofs.Targets.{still_there, no_more, nowhere}

module _ (f : Family) (b : Lent) (d : ℤ) (x : Bytes) where
  -- RANK's refusal is the jump's
  pub refused_so : {a : Answer} {q : ℕ} → a ≡ REFUSED q → ◌≡◌ {A = Said} (a, x) (respond RANK f b x) → ◌≡◌ {A = Said} (REFUSED q, x) (jump f b d x)
  unfolding jump judged
  refused_so r e =
      let missed = missed_where_refused f b RANK x (sym (rw r at e)) in
      rw missed.first

  -- where no question is missed
  module _ (pass : refusal RANK f b (length x) (is_object f b x) ≡ none) where
    pub goes : jump f b d x ≡ jumped x (listing f b) (target (rank_of f b x) (count_of f b) d)
    unfolding jump judged
    goes = rw pass

    pub count_fits : count_of f b < 2 ^ 64
    unfolding asked is_in
    count_fits = fits-asked f b RANK (length x) (is_object f b x) refl pass

    -- UNRANK is asked only whether the rank is below the count
    pub writes : {p : ℕ} → p < count_of f b → respond (UNRANK p) f b x ≡ (WRITTEN, get_or (listing f b) p x)
    unfolding asked is_in act
    writes {p} below =
        carried_out f b (UNRANK p) x
        (unrank_passes f b p (length x) (is_object f b x) (opening-asked f b RANK (length x) (is_object f b x) refl pass) count_fits
        ((asks_enough f b).sized RANK (length x) (is_object f b x) refl pass) below)

    module _ {r : ℕ} (rank : rank_of f b x ≡ r) where
      -- no rank below 2^64
      pub off : none ≡ target r (2 ^ 64) d → ◌≡◌ {A = Said} (END, x) (jump f b d x)
      unfolding jumped
      off e =
          let out = nowhere r (2 ^ 64) (count_of f b) d (omega (arith, count_fits)) (sym e) in
          sym (goes ∙ rw (rank, out))

      module _ {p : ℕ} (aim : some p ≡ target r (2 ^ 64) d) where
        -- UNRANK has refused it
        pub ended : {a : Answer} {q : ℕ} {y : Bytes} → a ≡ REFUSED q → ◌≡◌ {A = Said} (a, y) (respond (UNRANK p) f b x) → ◌≡◌ {A = Said} (END, y) (jump f b d x)
        unfolding jumped
        ended {q = q} {y = y} n e =
            let told : ◌≡◌ {A = Said} (REFUSED q, y) (respond (UNRANK p) f b x) = rw n at e in
            let high : count_of f b ≤ p =
            elim (dec_lt p (count_of f b)) [
              | yes h ↦ absurd (not_written (ap (λ (s : Said). s.0) (told ∙ writes h)))
              | no h ↦ omega arith
            ] in
            let out = no_more r (2 ^ 64) (count_of f b) d (sym aim) high in
            rw (missed_where_refused f b (UNRANK p) x (sym told)).unchanged (sym (goes ∙ rw (rank, out)))

        -- UNRANK has written it
        pub landed : {a : Answer} {y : Bytes} → a ≡ WRITTEN → ◌≡◌ {A = Said} (a, y) (respond (UNRANK p) f b x) → ◌≡◌ {A = Said} (WRITTEN, y) (jump f b d x)
        unfolding respond count_of jumped
        landed {y = y} w e =
            let told : ◌≡◌ {A = Said} (WRITTEN, y) (respond (UNRANK p) f b x) = rw w at e in
            let (clear, _) = passes (refusal (UNRANK p) f b (length x) (is_object f b x)) x (sym told) (λ q w. not_written w) in
            let below = (asks_enough f b).below p (length x) (is_object f b x) clear in
            told ∙ writes below ∙ sym (goes ∙ rw (rank, still_there r (2 ^ 64) (count_of f b) d (sym aim) below))
