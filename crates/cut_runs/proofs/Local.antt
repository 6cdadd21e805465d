-- A run's price and whether it is legal turn on its own calls alone: stretches that begin alike have the same runs as far as they are alike, and so have calls held that begin alike. Assumes nothing.
use Prim.Native.Nat.{ℕ, zero, suc, ◌+◌, ◌-◌, ◌<◌, ◌≤◌}
use native.Mathlib.Nat.{le_refl}
use native.Mathlib.Omega.{arith}
use mathlib.Core.Path.{◌≡◌, refl, sym, ap, ap₂, ◌∙◌}
use mathlib.Core.List.{List}
use Rattle.std.specs.Prelude.{Option, None, Some}
use lib.ListN.{length, take, drop, length-drop}
use lib.Seq.{length-take-le}
use lib.Dec.{leb}
use lib.Ieee.{Float}
use Rattle.basics.specs.Options.{value_or}
use Rattle.basics.proofs.TestLaws.{same_test}
use Rattle.basics.proofs.Parts.{parts-alike, shorter, long-alike}
use Rattle.cut_theory.specs.Rows.{rule64}
use Rattle.definitions.specs.Load.{Load}
use Rattle.definitions.specs.Sheet.{BreakOf}
use Rattle.models.specs.declared.placement.Placement.{Placement}
use Rattle.models.specs.declared.placement.Placement.TheVariants.{Clock, Least}
use Rattle.whole.specs.Whole.{fl}
use Rattle.clock.specs.Least.{KeptF, pick_f}
use Rattle.distance.specs.declared.leg.Leg.{Leg}
use Rattle.evaluation.specs.Records.{Tables}
use Rattle.evaluation.specs.Tables.{leg_f}
use Rattle.cut_runs.specs.Stretch.{fits_of, gone_of, way_of}
use Rattle.cut_runs.specs.Tariff.{Tariff, stretches, legal_of, far_of, runs_of, fars_of, Ended}
use Rattle.cut_runs.specs.Places.{home_of, least_to}
use Rattle.cut_runs.specs.Runs.{Instance, tariff, end_of, kept_of, least_end, end_by, end_in, allowed_f, pay_f}
use Rattle.cut_runs.proofs.Alike.{call-alike, place-alike, load-alike, timed-alike, clock-alike, label-alike}
use Rattle.cut_runs.proofs.Placing.{as_end}

-- ---- stretches that begin alike

module _ (m : ℕ) (st st' : List ℕ) (e : take m st ≡ take m st') where
  fits-alike : (demand : ℕ → Load) (capacity : Load) → fits_of demand capacity st m ≡ fits_of demand capacity st' m
  unfolding fits_of
  fits-alike demand capacity =
      rw (load-alike m st st' e demand m (le_refl m), same_test (leb m (length st)) (leb m (length st')) (long-alike m st st' e) (long-alike m st' st (sym e))) refl

  gone-alike : (leg : ℕ → ℕ → Option Leg) (k : ℕ) → k ≤ m → gone_of leg st k ≡ gone_of leg st' k
  unfolding gone_of
  gone-alike leg zero h = refl
  gone-alike leg (suc k) h = rw (gone-alike leg k (omega arith), place-alike m st st' e k (omega arith), call-alike m st st' e k h) refl

  way-alike : (leg : ℕ → ℕ → Option Leg) → way_of leg st m ≡ way_of leg st' m
  unfolding way_of
  way-alike leg = rw (gone-alike leg m (le_refl m), place-alike m st st' e m (le_refl m)) refl

  end-alike : (t : Tables) (rest : Option (BreakOf Float)) → end_of t st m rest ≡ end_of t st' m rest
  unfolding end_of
  end-alike t None = rw (timed-alike m st st' e t m (le_refl m), way-alike (leg_f t), place-alike m st st' e m (le_refl m)) refl
  end-alike t (Some b) = rw (clock-alike m st st' e t b m (le_refl m), way-alike (leg_f t), place-alike m st st' e m (le_refl m)) refl

  home-alike : (t : Tables) (b : BreakOf Float) (limits : KeptF) (p : ℕ) → home_of t st b limits m p ≡ home_of t st' b limits m p
  unfolding home_of
  home-alike t b limits p = rw (label-alike m st st' e t b p m (le_refl m), way-alike (leg_f t), place-alike m st st' e m (le_refl m)) refl

  least-alike : (t : Tables) (b : BreakOf Float) (limits : KeptF) (p : ℕ) → least_to t st b limits m p ≡ least_to t st' b limits m p
  unfolding least_to
  least-alike t b limits zero = home-alike t b limits 0
  least-alike t b limits (suc p) = ap₂ pick_f (least-alike t b limits p) (home-alike t b limits (suc p))

  in-alike : (I : Instance) → end_in I st m ≡ end_in I st' m
  unfolding end_by least_end
  in-alike I = go I.placement
    where
      least : (o : Option (BreakOf Float)) → least_end I.tables st m I.limits o ≡ least_end I.tables st' m I.limits o
      least None = end-alike I.tables None
      least (Some b) = ap as_end (least-alike I.tables b (kept_of I.tables st m I.limits) m)

      go : (p : Placement) → end_by I.tables st m I.limits p ≡ end_by I.tables st' m I.limits p
      go Clock = end-alike I.tables I.limits.rest
      go Least = least I.limits.rest

-- ---- tariffs that turn on the calls of a run alone

pub record Local (T : Tariff) : Type 0 where
  pub allowed-local : (m : ℕ) (st st' : List ℕ) → take m st ≡ take m st' → T.allowed st m ≡ T.allowed st' m
  pub pays-local : (m : ℕ) (st st' : List ℕ) → take m st ≡ take m st' → T.pays st m ≡ T.pays st' m

pub tariff-local : (I : Instance) → Local (tariff I)
unfolding allowed_f pay_f
tariff-local I =
    record {
      allowed-local = λ m st st' e. rw (in-alike m st st' e I) refl;
      pays-local = λ m st st' e. rw (in-alike m st st' e I) refl;
    }

module _ (T : Tariff) (L : Local T) where
  legal-alike : (m : ℕ) (st st' : List ℕ) → take m st ≡ take m st' → legal_of T st m ≡ legal_of T st' m
  unfolding legal_of
  legal-alike m st st' e = rw (L.allowed-local m st st' e, fits-alike m st st' e T.demand T.capacity) refl

  far-alike : (m : ℕ) (st st' : List ℕ) → take m st ≡ take m st' → far_of T st m ≡ far_of T st' m
  unfolding far_of
  far-alike m st st' e = ap (value_or (fl 0)) (way-alike m st st' e T.leg)

  -- ---- calls held that begin alike

  module _ (q : ℕ) (held held' : List ℕ) (e : take q held ≡ take q held') where
    run-alike : (i j : ℕ) → i < j → j ≤ q → take (j - i) (drop i held) ≡ take (j - i) (drop i held')
    run-alike i j h b = parts-alike q held held' e i (j - i) (omega arith)

    pub steps_alike : (c : Float) (i j : ℕ) → i < j → j ≤ q → (rule64 (runs_of T (stretches held))).step c i j ≡ (rule64 (runs_of T (stretches held'))).step c i j
    steps_alike c i j h b =
        let p = run-alike i j h b in
        rw (legal-alike (j - i) (drop i held) (drop i held') p, far-alike (j - i) (drop i held) (drop i held') p, L.pays-local (j - i) (drop i held) (drop i held') p) refl

    pub fars-alike : (d : Float) (i j : ℕ) → i < j → j ≤ q → (fars_of T (stretches held)).step d i j ≡ (fars_of T (stretches held')).step d i j
    fars-alike d i j h b = rw (far-alike (j - i) (drop i held) (drop i held') (run-alike i j h b)) refl

    -- a row that ended at a call that stays ends there
    pub ended-alike : (s r : ℕ) → r + s < q → q ≤ length held' → Ended T (drop s held) r → Ended T (drop s held') r
    ended-alike s r h b E =
        record {
          inside = omega (arith, length-drop s held');
          barred =
              λ _ st p. E.barred (omega (arith, length-drop s held, shorter q held, length-take-le q held' b, ap length e)) st (p ∙ sym (parts-alike q held held' e s (suc r) (omega arith)));
        }
