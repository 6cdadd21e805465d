-- Row i without a break, call by call: beside what every row keeps, the time and the lateness cost after m calls. Assumes nothing.
use Prim.Native.Nat.{ℕ, suc, ◌+◌, ◌<◌, ◌≤◌}
use native.Mathlib.Numerals.{add-one}
use mathlib.Core.Path.{◌≡◌, refl, sym, ap, subst, ◌∙◌}
use mathlib.Core.Bool.{Bool, true, false}
use Rattle.std.specs.Prelude.{None, Some}
use lib.ListN.{length, get_or}
use lib.Dec.{eqb}
use lib.Ieee.{Float, binary64, add}
use Rattle.cut_theory.specs.Tab.{most_cut}
use Rattle.models.specs.Limits.{allow_f}
use Rattle.whole.specs.Whole.{fl}
use Rattle.cut_table.specs.Table.{Table, Offered}
use Rattle.distance.specs.declared.leg.Leg.{Leg}
use Rattle.distance.specs.Lookup.{road_f}
use Rattle.evaluation.specs.Tables.{leg_f, place_before}
use Rattle.definitions.specs.Load.{Load, plus, carried}
use Rattle.cut_stops.specs.Stops.{StopF}
use Rattle.cut_runs.specs.declared.visit.Elapsed.{Elapsed}
use Rattle.cut_runs.specs.Stretch.{joined_f}
use Rattle.cut_runs.specs.Tariff.{RowOf, Ended}
use Rattle.cut_runs.specs.Runs.{Instance, tariff, visit_f, timed_of, End, end_in, allowed_f}
use Rattle.cut_runs.proofs.Along.{Row, Along, OneMore, stopped, far-is, over, onward, vain}
use Rattle.cut_runs.proofs.Roads.{home-closed}
use Rattle.cut_runs.proofs.Clocks.{plain_end, not-ended, allowed-is, pay-is, timed-more, end-timed}
use Rattle.cut_runs.proofs.Placing.{closed-end}
use Rattle.cut_runs.proofs.Ends.{shut-over}
use Rattle.cut_runs.proofs.Calls.{CallIs, leg-open, by_home}

pub record PlainAlong (I : Instance) (R : Row) (new : Table) (load : Load) (gone time late : Float) (m : ℕ) : Type 0 where
  pub along : Along (tariff I) R new load gone m
  pub timed : timed_of I.tables R.st m ≡ Some (record { time = time; late_cost = late })

-- before the first call
pub plain-setout : {I : Instance} {R : Row} {load : Load} {gone time late : Float} → Along (tariff I) R R.old load gone 0
    → time ≡ fl 0 → late ≡ fl 0 → PlainAlong I R R.old load gone time late 0
unfolding timed_of
plain-setout A et el = record { along = A; timed = rw (et, el) refl }

-- a call whose load fits, with the leg to it, which is open
module _ (I : Instance) (unbroken : I.limits.rest ≡ None) {R : Row} {new : Table} {load : Load} {gone time late : Float} {m : ℕ}
    {load' : Load} {gone' : Float} (s : StopF) (listed travel arrival leg : Float)
    (A : PlainAlong I R new load gone time late m) (C : CallIs I.tables R.st m s listed travel)
    (b : m < length R.st) (short : R.i + length R.st ≤ most_cut)
    (es : load' ≡ plus load s.customer.demand)
    (ef : carried load' I.capacity ≡ true)
    (el : road_f listed ≡ Some leg)
    (eg : gone' ≡ joined_f gone leg (eqb m 0))
    (ea : arrival ≡ joined_f time travel (eqb m 0)) where
  -- its number
  abbrev call : ℕ
  call = get_or R.st m 0

  leg-is : leg_f I.tables (place_before R.st m) call ≡ Some (record { distance = leg; time = travel })
  leg-is = leg-open _ listed travel C.leg-is leg el

  one_more : OneMore (tariff I) R load gone m load' gone'
  one_more =
      record {
        inside = b;
        short = short;
        demand = s.customer.demand;
        leg = record { distance = leg; time = travel };
        is-demand = C.demand-is;
        is-load = es;
        fits = ef;
        is-leg = leg-is;
        is-gone = eg;
      }

  timed-is : timed_of I.tables R.st (suc m) ≡ visit_f s.customer arrival late
  timed-is = timed-more I.tables R.st m _ _ A.timed leg-is ∙ rw (C.record_is, ea) refl

  -- a window that is shut
  pub shut : visit_f s.customer arrival late ≡ None → RowOf (tariff I) R.st R.i R.old new × Ended (tariff I) R.st m
  shut e =
      let E = shut-over I R.st m A.along.within unbroken (timed-is ∙ e) in
      (stopped A.along b E, E)

  -- a call that is served
  module _ (v : Elapsed) (ev : visit_f s.customer arrival late ≡ Some v) where
    -- after it
    abbrev Next : Table → Type 0
    Next new' = PlainAlong I R new' load' gone' v.time v.late_cost (m + 1)

    next : (new' : Table) → Along (tariff I) R new' load' gone' (m + 1) → Next new'
    next new' N = record { along = N; timed = ap (timed_of I.tables R.st) (add-one m) ∙ timed-is ∙ ev }

    -- the way home is closed
    homeless : leg_f I.tables call 0 ≡ None → Next new
    unfolding place_before
    homeless z =
        next new
        (over A.along one_more
        (not-ended I R.st (suc m) (closed-end I R.st (suc m) (home-closed (leg_f I.tables) R.st (suc m) z))))

    abbrev home : Leg
    home = record { distance = s.back; time = s.time_back }

    abbrev total : Float
    total = add binary64 gone' s.back

    abbrev allows : Bool
    allows = allow_f I.limits.max_distance I.limits.max_duration total (add binary64 v.time s.time_back)

    -- it is open
    module _ (home-is : leg_f I.tables call 0 ≡ Some home) where
      abbrev ending : End
      ending = record { distance = total; duration = add binary64 v.time s.time_back; pay = v.late_cost }

      end_is : end_in I R.st (suc m) ≡ Some ending
      unfolding place_before
      end_is =
          plain_end I unbroken R.st (suc m)
          ∙ end-timed I.tables R.st (suc m) total home (far-is A.along one_more home home-is) home-is v (timed-is ∙ ev)

      allows-is : allowed_f I R.st (suc m) ≡ allows
      allows-is = allowed-is I R.st (suc m) ending end_is

    -- over a limit
    pub skip : allows ≡ false → Next new
    skip z = by_home C (λ shut _. homeless shut) (λ road. next new (over A.along one_more (allows-is road ∙ z)))

    -- within the limits
    pub put : (j : ℕ) (new' : Table) → allows ≡ true → j ≡ R.i + (m + 1)
        → Offered j R.i (add binary64 (add binary64 R.base total) v.late_cost) (add binary64 R.ahead total) new new' → Next new'
    put j new' z ej O =
        by_home C (λ shut none-listed. subst Next (sym (vain R.base gone' s.back v.late_cost none-listed O)) (homeless shut))
        (λ road.
        next new'
        (onward A.along one_more home _ j new' road (allows-is road ∙ z)
        (ap (add binary64 (add binary64 R.base total)) (sym (pay-is I R.st (suc m) (ending road) (end_is road)))) ej O))
