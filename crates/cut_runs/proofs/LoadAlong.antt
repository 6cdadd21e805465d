-- Row i by loads and closed legs alone, call by call: beside what every row keeps, the run has some time after m calls, and nothing is late. Assumes nothing.
use Prim.Native.Nat.{ℕ, suc, ◌+◌}
use native.Mathlib.Numerals.{add-one}
use mathlib.Core.Path.{◌≡◌, refl, sym, ap, subst, ◌∙◌}
use mathlib.Core.List.{List, map}
use Rattle.std.specs.Prelude.{Some}
use lib.ListN.{get_or, get_or-map}
use lib.Dec.{eqb}
use lib.Ieee.{Float, binary64, add}
use Rattle.definitions.specs.Sheet.{CustomerOf}
use Rattle.definitions.specs.Load.{Load}
use Rattle.whole.specs.Whole.{fl}
use Rattle.evaluation.specs.Records.{Tables}
use Rattle.evaluation.specs.Tables.{record_index, blank, record_f, demand_f, leg_f}
use Rattle.cut_stops.specs.Stops.{StopF}
use Rattle.cut_table.specs.Table.{Table, Offered}
use Rattle.cut_runs.specs.declared.terms.Terms.{Terms}
use Rattle.cut_runs.specs.declared.visit.Elapsed.{Elapsed}
use Rattle.cut_runs.specs.Stretch.{joined_f}
use Rattle.cut_runs.specs.Runs.{bare_f, by_loads, tariff, enter_f, visit_f, timed_of, End, end_in}
use Rattle.cut_runs.proofs.Along.{Row, Along, vain}
use Rattle.cut_runs.proofs.Clocks.{plain_end, timed-more, end-timed}
use Rattle.cut_runs.proofs.Calls.{CallIs, by_home}
use Rattle.cut_runs.proofs.Calling.{Called, leg-is, no-home, home, total, way-is, back_is, offered}

-- ---- a call of bare tables

abbrev pub bare_tables : Tables → Tables
bare_tables t = record { customers = map bare_f t.customers; distances = t.distances; times = t.times; size = t.size }

abbrev pub bare_stop : StopF → StopF
bare_stop s = record { customer = bare_f s.customer; out = s.out; back = s.back; time_out = s.time_out; time_back = s.time_back }

-- the lists of the tables have it, but for its window and penalty
pub call-bare : {t : Tables} {st : List ℕ} {m : ℕ} {s : StopF} {leg travel : Float} → CallIs t st m s leg travel → CallIs (bare_tables t) st m (bare_stop s) leg travel
unfolding record_f demand_f
call-bare {t} {st} {m} C =
    let here : get_or (map bare_f t.customers) (record_index (get_or st m 0)) blank ≡ bare_f (record_f t (get_or st m 0)) = get_or-map bare_f t.customers (record_index (get_or st m 0)) blank in
    record {
      demand-is = C.demand-is ∙ sym (ap (λ (c : CustomerOf Float). c.demand) here);
      record_is = ap bare_f C.record_is ∙ sym here;
      leg-is = C.leg-is;
      back_is = C.back_is;
      time-back-is = C.time-back-is;
    }

-- ---- the row

pub record LoadAlong (t : Tables) (terms : Terms) (R : Row) (new : Table) (load : Load) (gone : Float) (m : ℕ) : Type 0 where
  pub along : Along (tariff (by_loads t terms)) R new load gone m
  pub time : Float
  pub timed : timed_of (bare_tables t) R.st m ≡ Some (record { time = time; late_cost = fl 0 })

-- before the first call
pub load-setout : {t : Tables} {terms : Terms} {R : Row} {load : Load} {gone : Float} → Along (tariff (by_loads t terms)) R R.old load gone 0
    → LoadAlong t terms R R.old load gone 0
unfolding timed_of
load-setout A = record { along = A; time = fl 0; timed = refl }

-- one call more
module _ {t : Tables} {terms : Terms} {R : Row} {new : Table} {load : Load} {gone : Float} {m : ℕ} (s : StopF) {travel : Float} {load' : Load} {gone' : Float}
    (A : LoadAlong t terms R new load gone m) (K : Called (by_loads t terms) R new load gone m (bare_stop s) travel load' gone') where
  abbrev after : Elapsed
  after = record { time = add binary64 (joined_f A.time travel (eqb m 0)) s.customer.service; late_cost = fl 0 }

  timed-after : timed_of (bare_tables t) R.st (suc m) ≡ Some after
  unfolding visit_f enter_f
  timed-after = timed-more (bare_tables t) R.st m _ _ A.timed (leg-is K) ∙ rw (← K.is-call.record_is) refl

  -- after it
  abbrev Next : Table → Type 0
  Next new' = LoadAlong t terms R new' load' gone' (m + 1)

  next : (new' : Table) → Along (tariff (by_loads t terms)) R new' load' gone' (m + 1) → Next new'
  next new' N = record { along = N; time = after.time; timed = ap (timed_of (bare_tables t) R.st) (add-one m) ∙ timed-after }

  -- the way home is open
  module _ (road : leg_f t (get_or R.st m 0) 0 ≡ Some (home K)) where
    abbrev ending : End
    ending = record { distance = total K; duration = add binary64 after.time s.time_back; pay = fl 0 }

    end_is : end_in (by_loads t terms) R.st (suc m) ≡ Some ending
    end_is = plain_end (by_loads t terms) refl R.st (suc m) ∙ end-timed (bare_tables t) R.st (suc m) (total K) (home K) (way-is K road) (back_is K road) after timed-after

  -- and the run is offered
  abbrev OfferedAt : ℕ → Float → Table → Type 0
  OfferedAt j late new' = Offered j R.i (add binary64 (add binary64 R.base (total K)) late) (add binary64 R.ahead (total K)) new new'

  pub put : (late : Float) → late ≡ fl 0 → (j : ℕ) (new' : Table) → j ≡ R.i + (m + 1) → OfferedAt j late new' → Next new'
  put late el j new' ej O =
      by_home K.is-call (λ shut none-listed. subst Next (sym (vain R.base gone' s.back late none-listed O)) (next new (no-home K shut)))
      (λ road. next new' (offered K road (ending road) (end_is road) j new' refl ej (subst (λ (x : Float). OfferedAt j x new') el O)))
