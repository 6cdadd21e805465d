-- A call that a row goes over: its load fits and the leg to it is open. What every row then keeps, by the end of the run. Assumes nothing.
use Prim.Native.Nat.{ℕ, suc, ◌+◌, ◌<◌, ◌≤◌}
use mathlib.Core.Path.{◌≡◌, sym, ap, ◌∙◌}
use mathlib.Core.Bool.{Bool, true}
use Rattle.std.specs.Prelude.{None, Some}
use lib.ListN.{length, get_or}
use lib.Dec.{eqb}
use lib.Ieee.{Float, binary64, add}
use Rattle.cut_theory.specs.Tab.{most_cut}
use Rattle.models.specs.Limits.{allow_f}
use Rattle.distance.specs.declared.leg.Leg.{Leg}
use Rattle.distance.specs.Lookup.{road_f}
use Rattle.evaluation.specs.Tables.{leg_f, place_before}
use Rattle.cut_table.specs.Table.{Table, Offered}
use Rattle.definitions.specs.Load.{Load, plus, carried}
use Rattle.cut_stops.specs.Stops.{StopF}
use Rattle.cut_runs.specs.Stretch.{joined_f, way_of}
use Rattle.cut_runs.specs.Runs.{Instance, tariff, End, end_in, allowed_f}
use Rattle.cut_runs.proofs.Along.{Row, Along, OneMore, far-is, over, onward}
use Rattle.cut_runs.proofs.Roads.{home-closed}
use Rattle.cut_runs.proofs.Clocks.{not-ended, allowed-is, pay-is}
use Rattle.cut_runs.proofs.Placing.{closed-end}
use Rattle.cut_runs.proofs.Calls.{CallIs, leg-open}

-- call number m of the row, with its stop and the travel time to it: the load and the way with it
pub record Called (I : Instance) (R : Row) (new : Table) (load : Load) (gone : Float) (m : ℕ) (s : StopF) (travel : Float) (load' : Load) (gone' : Float) : Type 0 where
  pub along : Along (tariff I) R new load gone m
  -- the leg to it in the lists, and its length
  pub listed : Float
  pub leg : Float
  pub is-call : CallIs I.tables R.st m s listed travel
  pub inside : m < length R.st
  pub short : R.i + length R.st ≤ most_cut
  pub is-load : load' ≡ plus load s.customer.demand
  pub fits : carried load' I.capacity ≡ true
  pub is-leg : road_f listed ≡ Some leg
  pub is-gone : gone' ≡ joined_f gone leg (eqb m 0)

module _ {I : Instance} {R : Row} {new : Table} {load : Load} {gone : Float} {m : ℕ} {s : StopF} {travel : Float} {load' : Load} {gone' : Float}
    (K : Called I R new load gone m s travel load' gone') where
  -- its number
  abbrev call : ℕ
  call = get_or R.st m 0

  pub leg-is : leg_f I.tables (place_before R.st m) call ≡ Some (record { distance = K.leg; time = travel })
  leg-is = leg-open _ K.listed travel K.is-call.leg-is K.leg K.is-leg

  one_more : OneMore (tariff I) R load gone m load' gone'
  one_more =
      record {
        inside = K.inside;
        short = K.short;
        demand = s.customer.demand;
        leg = record { distance = K.leg; time = travel };
        is-demand = K.is-call.demand-is;
        is-load = K.is-load;
        fits = K.fits;
        is-leg = leg-is;
        is-gone = K.is-gone;
      }

  -- after it
  abbrev Next : Table → Type 0
  Next new' = Along (tariff I) R new' load' gone' (m + 1)

  -- the run has no end
  pub no_end : end_in I R.st (suc m) ≡ None → Next new
  no_end z = over K.along one_more (not-ended I R.st (suc m) z)

  -- the way home is closed
  pub no-home : leg_f I.tables call 0 ≡ None → Next new
  unfolding place_before
  no-home z = no_end (closed-end I R.st (suc m) (home-closed (leg_f I.tables) R.st (suc m) z))

  -- as it is listed, and the way with it
  abbrev pub home : Leg
  home = record { distance = s.back; time = s.time_back }

  abbrev pub total : Float
  total = add binary64 gone' s.back

  -- it is open
  module _ (home-is : leg_f I.tables call 0 ≡ Some home) where
    pub way-is : way_of (leg_f I.tables) R.st (suc m) ≡ Some total
    way-is = far-is K.along one_more home home-is

    pub back_is : leg_f I.tables (place_before R.st (suc m)) 0 ≡ Some home
    unfolding place_before
    back_is = home-is

    -- and the run has this end
    module _ (x : End) (e : end_in I R.st (suc m) ≡ Some x) where
      abbrev allows : Bool
      allows = allow_f I.limits.max_distance I.limits.max_duration x.distance x.duration

      allows-is : allowed_f I R.st (suc m) ≡ allows
      allows-is = allowed-is I R.st (suc m) x e

      -- within the limits
      pub offered : (j : ℕ) (new' : Table) → allows ≡ true → j ≡ R.i + (m + 1)
          → Offered j R.i (add binary64 (add binary64 R.base total) x.pay) (add binary64 R.ahead total) new new' → Next new'
      offered j new' z ej O =
          onward K.along one_more home _ j new' home-is (allows-is ∙ z)
          (ap (add binary64 (add binary64 R.base total)) (sym (pay-is I R.st (suc m) x e))) ej O
