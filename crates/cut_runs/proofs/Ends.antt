-- Where a row ends, for every stretch that begins alike: the calls up to the one that ends it decide load, legs, time and clock. Assumes nothing.
use Prim.Native.Nat.{ℕ, suc, ◌<◌, ◌≤◌}
use native.Mathlib.Nat.{le_refl}
use native.Mathlib.Omega.{arith}
use mathlib.Core.Path.{◌≡◌, sym, ap, ap₂, ◌∙◌}
use mathlib.Core.Bool.{Bool, false, ◌&&◌, and-false}
use mathlib.Core.List.{List, []}
use Rattle.std.specs.Prelude.{None, Some}
use lib.ListN.{length, get_or, take}
use lib.Ieee.{Float}
use Rattle.cut_table.specs.Table.{Table}
use Rattle.definitions.specs.Sheet.{BreakOf}
use Rattle.definitions.specs.Load.{Load, plus, carried}
use Rattle.models.specs.declared.placement.Placement.TheVariants.{Clock, Least}
use Rattle.clock.specs.Records.{ClockF}
use Rattle.clock.specs.Clock.{alive_f}
use Rattle.evaluation.specs.Tables.{leg_f, place_before}
use Rattle.cut_runs.specs.Stretch.{load_to, fits_of}
use Rattle.cut_runs.specs.Tariff.{Tariff, legal_of, RowOf, Ended}
use Rattle.cut_runs.specs.Places.{label_of}
use Rattle.cut_runs.specs.Runs.{Instance, tariff, timed_of, clock_of, kept_of}
use Rattle.cut_runs.proofs.Fitting.{none_over}
use Rattle.cut_runs.proofs.Alike.{call-alike, place-alike, load-alike, timed-alike, clock-alike, label-alike}
use Rattle.cut_runs.proofs.Along.{Row, Along, load-next, stopped, at-end}
use Rattle.cut_runs.proofs.Roads.{way-closed}
use Rattle.cut_runs.proofs.Clocks.{plain_end, clock-end, not-ended, timed-shut, end-shut, end-dead}
use Rattle.cut_runs.proofs.Placing.{all_to, labels-same, least-dead, as_end, least-end, closed-end}

-- ---- the ends

module _ (T : Tariff) (st : List ℕ) (r : ℕ) (b : r ≤ length st) where
  -- no call is left
  pub all-over : length st ≤ r → Ended T st r
  all-over h = record { inside = b; barred = λ k. absurd (omega arith) }

  -- a load that is too much
  pub heavy-over : carried (load_to T.demand st (suc r)) T.capacity ≡ false → Ended T st r
  unfolding legal_of
  heavy-over o =
      record {
        inside = b;
        barred =
            λ _ st' e m h.
            let z : carried (load_to T.demand st' (suc r)) T.capacity ≡ false = rw (load-alike (suc r) st' st e T.demand (suc r) (le_refl _)) o in
            ap (λ (x : Bool). T.allowed st' m && x) (none_over T.demand T.capacity st' r z m h) ∙ and-false (T.allowed st' m);
      }

  -- no longer run is allowed
  not-allowed : ((st' : List ℕ) → take (suc r) st' ≡ take (suc r) st → (m : ℕ) → r < m → T.allowed st' m ≡ false) → Ended T st r
  unfolding legal_of
  not-allowed z = record { inside = b; barred = λ _ st' e m h. ap (λ (x : Bool). x && fits_of T.demand T.capacity st' m) (z st' e m h) }

module _ (I : Instance) (st : List ℕ) (r : ℕ) (b : r ≤ length st) where
  -- a window that is shut
  pub shut-over : I.limits.rest ≡ None → timed_of I.tables st (suc r) ≡ None → Ended (tariff I) st r
  shut-over unbroken e =
      not-allowed (tariff I) st r b
      (λ st' a m h.
      not-ended I st' m
      (plain_end I unbroken st' m
      ∙ end-shut I.tables st' m (timed-shut I.tables st' (suc r) (timed-alike (suc r) st' st a I.tables (suc r) (le_refl _) ∙ e) m h)))

  -- a clock with no label left
  pub dead-over : I.placement ≡ Clock → (rest : BreakOf Float) → I.limits.rest ≡ Some rest → (x : ClockF) → clock_of I.tables st rest (suc r) ≡ Some x → alive_f x ≡ false
      → Ended (tariff I) st r
  dead-over by rest broken x e z =
      not-allowed (tariff I) st r b
      (λ st' a m h.
      not-ended I st' m
      (clock-end I by rest broken st' m
      ∙ end-dead I.tables st' rest (suc r) x (clock-alike (suc r) st' st a I.tables rest (suc r) (le_refl _) ∙ e) z m h))

  -- no label of any break place left
  pub unplaced-over : I.placement ≡ Least → (rest : BreakOf Float) → I.limits.rest ≡ Some rest → label_of I.tables st rest 0 (suc r) ≡ None
      → all_to I.tables st rest (suc r) (suc r) ≡ [] → Ended (tariff I) st r
  unplaced-over by rest broken gone none_left =
      not-allowed (tariff I) st r b
      (λ st' a m h.
      not-ended I st' m
      (least-end I by rest broken st' m
      ∙ ap as_end
      (least-dead I.tables st' rest (kept_of I.tables st' m I.limits) (suc r) (label-alike (suc r) st' st a I.tables rest 0 (suc r) (le_refl _) ∙ gone)
      (all_alike st' a (suc r) ∙ none_left) m h)))
    where
      all_alike : (st' : List ℕ) → take (suc r) st' ≡ take (suc r) st → (p : ℕ) → all_to I.tables st' rest p (suc r) ≡ all_to I.tables st rest p (suc r)
      all_alike st' a p = labels-same I.tables st' st rest (suc r) (λ q. label-alike (suc r) st' st a I.tables rest q (suc r) (le_refl _)) p

  -- a closed leg to the next call
  pub closed-over : leg_f I.tables (place_before st r) (get_or st r 0) ≡ None → Ended (tariff I) st r
  closed-over e =
      not-allowed (tariff I) st r b
      (λ st' a m h.
      let same : leg_f I.tables (place_before st' r) (get_or st' r 0) ≡ None
      = ap₂ (leg_f I.tables) (place-alike (suc r) st' st a r (omega arith)) (call-alike (suc r) st' st a r (omega arith)) ∙ e
      in
      not-ended I st' m (closed-end I st' m (way-closed (leg_f I.tables) st' r same m h)))

-- ---- a row that ends after m calls

module _ {T : Tariff} {R : Row} {new : Table} {load : Load} {gone : Float} {m : ℕ} (A : Along T R new load gone m) where
  abbrev EndsHere : Type 0
  EndsHere = RowOf T R.st R.i R.old new × Ended T R.st m

  -- since no call is left
  pub run_out : length R.st ≤ m → EndsHere
  run_out h = (at-end A h, all-over T R.st m A.within h)

  -- since the next call is too much
  pub overloaded : m < length R.st → (d load' : Load) → d ≡ T.demand (get_or R.st m 0) → load' ≡ plus load d
      → carried load' T.capacity ≡ false → EndsHere
  overloaded b d load' e p o =
      let E = heavy-over T R.st m A.within (sym (ap (λ (l : Load). carried l T.capacity) (load-next A d load' e p)) ∙ o) in
      (stopped A b E, E)

-- since the leg to the next call is closed
pub cut_off : (I : Instance) {R : Row} {new : Table} {load : Load} {gone : Float} {m : ℕ} (A : Along (tariff I) R new load gone m) → m < length R.st
    → leg_f I.tables (place_before R.st m) (get_or R.st m 0) ≡ None → EndsHere A
cut_off I {R} {m = m} A b e =
    let E = closed-over I R.st m A.within e in
    (stopped A b E, E)
