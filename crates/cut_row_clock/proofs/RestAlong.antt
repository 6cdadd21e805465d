-- Row i with a break where the clock puts it, call by call: beside what every row keeps, the clock after m calls. Assumes nothing.
use Prim.Native.Nat.{ℕ, suc, ◌+◌, ◌<◌, ◌≤◌}
use native.Mathlib.Numerals.{add-one}
use mathlib.Core.Path.{◌≡◌, sym, ap, subst, ◌∙◌}
use mathlib.Core.Bool.{Bool, true, false}
use Rattle.std.specs.Prelude.{Option, None, Some}
use lib.ListN.{length, get_or}
use lib.Dec.{eqb}
use lib.Ieee.{Float, binary64, add}
use Rattle.cut_theory.specs.Tab.{most_cut}
use Rattle.definitions.specs.Sheet.{BreakOf, CustomerOf}
use Rattle.models.specs.declared.placement.Placement.TheVariants.{Clock}
use Rattle.models.specs.Limits.{allow_f}
use Rattle.distance.specs.declared.leg.Leg.{Leg}
use Rattle.distance.specs.Lookup.{road_f}
use Rattle.clock.specs.Records.{ClockF}
use Rattle.clock.specs.Clock.{begun_f, push_f, alive_f, finish_f}
use Rattle.clock.specs.declared.schedule.Scheduled.{Scheduled}
use Rattle.evaluation.specs.Tables.{leg_f, place_before}
use Rattle.cut_table.specs.Table.{Table, Offered}
use Rattle.definitions.specs.Load.{Load, plus, carried}
use Rattle.cut_stops.specs.Stops.{StopF}
use Rattle.cut_runs.specs.Stretch.{joined_f}
use Rattle.cut_runs.specs.Tariff.{RowOf, Ended}
use Rattle.cut_runs.specs.Runs.{Instance, tariff, clock_of, End, end_in, allowed_f}
use Rattle.cut_runs.proofs.Along.{Row, Along, OneMore, stopped, far-is, over, onward, vain}
use Rattle.cut_runs.proofs.Roads.{home-closed}
use Rattle.cut_runs.proofs.Clocks.{clock-end, not-ended, allowed-is, pay-is, clock-more, ended, end-finished}
use Rattle.cut_runs.proofs.Placing.{closed-end}
use Rattle.cut_runs.proofs.Ends.{dead-over}
use Rattle.cut_runs.proofs.Calls.{CallIs, leg-open, by_home}

pub record RestAlong (I : Instance) (rest : BreakOf Float) (R : Row) (new : Table) (load : Load) (gone : Float) (clock : ClockF) (m : ℕ) : Type 0 where
  pub along : Along (tariff I) R new load gone m
  pub is-clock : clock_of I.tables R.st rest m ≡ Some clock

-- before the first call
pub rest-setout : {I : Instance} {rest : BreakOf Float} {R : Row} {load : Load} {gone : Float} {clock : ClockF}
    → Along (tariff I) R R.old load gone 0 → clock ≡ begun_f rest → RestAlong I rest R R.old load gone clock 0
unfolding clock_of
rest-setout A e = record { along = A; is-clock = ap Some (sym e) }

-- the number of the next call, from 1
pub first-index : (rest : BreakOf Float) (clock : ClockF) → clock ≡ begun_f rest → clock.index ≡ 0 + 1
first-index rest clock e = ap (λ (x : ClockF). x.index) e

pub next-index : (clock clock' : ClockF) (cid : ℕ) (c : CustomerOf Float) (travel : Float) (m : ℕ) → clock' ≡ push_f clock cid c travel
    → clock.index ≡ m + 1 → clock'.index ≡ m + 1 + 1
unfolding push_f
next-index clock clock' cid c travel m e h = ap (λ (x : ClockF). x.index) e ∙ ap (λ (n : ℕ). n + 1) h

-- a call whose load fits, with the leg to it, which is open
module _ (I : Instance) (by : I.placement ≡ Clock) (rest : BreakOf Float) (broken : I.limits.rest ≡ Some rest) {R : Row} {new : Table} {load : Load} {gone : Float}
    {clock : ClockF} {m : ℕ} {load' : Load} {gone' : Float} {clock' : ClockF} (s : StopF) (listed travel leg : Float)
    (A : RestAlong I rest R new load gone clock m) (C : CallIs I.tables R.st m s listed travel)
    (b : m < length R.st) (short : R.i + length R.st ≤ most_cut)
    (es : load' ≡ plus load s.customer.demand)
    (ef : carried load' I.capacity ≡ true)
    (el : road_f listed ≡ Some leg)
    (eg : gone' ≡ joined_f gone leg (eqb m 0))
    (ep : clock' ≡ push_f clock (get_or R.st m 0) s.customer travel) where
  -- its number
  abbrev call : ℕ
  call = get_or R.st m 0

  leg-is : leg_f I.tables (place_before R.st m) call ≡ Some (record { distance = leg; time = travel })
  leg-is = leg-open _ listed travel C.leg-is leg el

  one_more : OneMore (tariff I) R load gone m load' gone'
  one_more =
      record {
        inside = b;
        short = short;
        demand = s.customer.demand;
        leg = record { distance = leg; time = travel };
        is-demand = C.demand-is;
        is-load = es;
        fits = ef;
        is-leg = leg-is;
        is-gone = eg;
      }

  clock-is : clock_of I.tables R.st rest (suc m) ≡ Some clock'
  clock-is =
      clock-more I.tables R.st rest m clock _ A.is-clock leg-is
      ∙ ap Some (sym (ep ∙ ap (λ (x : CustomerOf Float). push_f clock call x travel) C.record_is))

  -- no label is left
  pub dead : alive_f clock' ≡ false → RowOf (tariff I) R.st R.i R.old new × Ended (tariff I) R.st m
  dead e =
      let E = dead-over I R.st m A.along.within by rest broken clock' clock-is e in
      (stopped A.along b E, E)

  -- after it
  abbrev Next : Table → Type 0
  Next new' = RestAlong I rest R new' load' gone' clock' (m + 1)

  next : (new' : Table) → Along (tariff I) R new' load' gone' (m + 1) → Next new'
  next new' N = record { along = N; is-clock = ap (clock_of I.tables R.st rest) (add-one m) ∙ clock-is }

  -- the run has no end
  no_end : end_in I R.st (suc m) ≡ None → Next new
  no_end z = next new (over A.along one_more (not-ended I R.st (suc m) z))

  -- the way home is closed
  homeless : leg_f I.tables call 0 ≡ None → Next new
  unfolding place_before
  homeless z = no_end (closed-end I R.st (suc m) (home-closed (leg_f I.tables) R.st (suc m) z))

  abbrev home : Leg
  home = record { distance = s.back; time = s.time_back }

  abbrev total : Float
  total = add binary64 gone' s.back

  -- what the clock reports of the run that ends here
  module _ (o : Option Scheduled) (eo : o ≡ finish_f total s.time_back clock') where
    end_is : leg_f I.tables call 0 ≡ Some home → end_in I R.st (suc m) ≡ ended total o
    unfolding place_before
    end_is home-is =
        clock-end I by rest broken R.st (suc m)
        ∙ end-finished I.tables R.st (suc m) total home (far-is A.along one_more home home-is) home-is rest clock' o clock-is (sym eo)

    -- the clock has no end
    pub endless : o ≡ None → Next new
    endless e = by_home C (λ shut _. homeless shut) (λ road. no_end (end_is road ∙ ap (ended total) e))

    -- it has one
    module _ (x : Scheduled) (ex : o ≡ Some x) where
      abbrev ending : End
      ending = record { distance = total; duration = x.duration; pay = x.cost }

      abbrev allows : Bool
      allows = allow_f I.limits.max_distance I.limits.max_duration total x.duration

      module _ (road : leg_f I.tables call 0 ≡ Some home) where
        some_end : end_in I R.st (suc m) ≡ Some ending
        some_end = end_is road ∙ ap (ended total) ex

        allows-is : allowed_f I R.st (suc m) ≡ allows
        allows-is = allowed-is I R.st (suc m) ending some_end

      -- over a limit
      pub skip : allows ≡ false → Next new
      skip z = by_home C (λ shut _. homeless shut) (λ road. next new (over A.along one_more (allows-is road ∙ z)))

      -- within the limits
      pub put : (j : ℕ) (new' : Table) → allows ≡ true → j ≡ R.i + (m + 1)
          → Offered j R.i (add binary64 (add binary64 R.base total) x.cost) (add binary64 R.ahead total) new new' → Next new'
      put j new' z ej O =
          by_home C (λ shut none-listed. subst Next (sym (vain R.base gone' s.back x.cost none-listed O)) (homeless shut))
          (λ road.
          next new'
          (onward A.along one_more home _ j new' road (allows-is road ∙ z)
          (ap (add binary64 (add binary64 R.base total)) (sym (pay-is I R.st (suc m) ending (some_end road)))) ej O))
