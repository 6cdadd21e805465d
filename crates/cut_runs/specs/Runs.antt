-- The runs along a stretch by windows, limits and break on floats, as the code has them: the clocks of a stretch, the price of a run for
-- either placement of its break, and what a row does. Definitions only.
use Rattle.std.specs.Prelude.{ℕ, zero, suc, ◌≤◌, Bool, true, false, cond, List, [], ◌∷◌, map, length, get_or, drop, eqb, Float, Option, None, Some}
use Rattle.std.specs.Float.Ieee as Ieee
use Rattle.std.specs.Float.{binary64}
use Rattle.basics.specs.Options.{◌>>=◌, holds}
use Rattle.cut_theory.specs.Tab.{most_cut}
use Rattle.definitions.specs.Load.{Load}
use Rattle.definitions.specs.Sheet.{WindowOf, BreakOf, CustomerOf}
use Rattle.models.specs.declared.customer.Customer.{Customer}
use Rattle.models.specs.declared.load.Space.{Space}
use Rattle.models.specs.Load.{space_of}
use Rattle.models.specs.declared.limits.RouteLimits.{RouteLimits}
use Rattle.models.specs.declared.placement.Placement.{Placement}
use Rattle.models.specs.declared.placement.Placement.TheVariants.{Clock, Least}
use Rattle.models.specs.Records.{rest_of}
use Rattle.models.specs.Limits.{allow_f}
use Rattle.models.specs.Window.{late_f}
use Rattle.whole.specs.Whole.{fl}
use Rattle.whole.specs.Larger.{larger_f}
use Rattle.distance.specs.declared.leg.Leg.{Leg}
use Rattle.clock.specs.Records.{ClockF}
use Rattle.clock.specs.Clock.{begun_f, push_f, finish_f}
use Rattle.clock.specs.Least.{KeptF}
use Rattle.evaluation.specs.Records.{Tables, LimitsF}
use Rattle.evaluation.specs.Records as Evaluation
use Rattle.evaluation.specs.Tables.{record_f, demand_f, leg_f, place_before}
use Rattle.cut_stops.specs.Stops.{Numbers, numbers, Long, StopsOf, Below64, LegLists, leg_lists, LegsLong, LegsAre}
use Rattle.cut_table.specs.Table.{Table, Sized}
use Rattle.cut_runs.specs.declared.terms.Terms.{Terms}
use Rattle.cut_runs.specs.declared.visit.Elapsed.{Elapsed}
use Rattle.cut_runs.specs.Stretch.{joined_f, way_of}
use Rattle.cut_runs.specs.Tariff.{Tariff, RowOf, Ended}
use Rattle.cut_runs.specs.Places.{least_of}

-- ---- what is lent

pub record Instance : Type 0 where
  pub tables : Tables
  pub capacity : Load
  -- the cost added for every run
  pub fixed : Float
  pub limits : LimitsF
  -- where a run's break goes
  pub placement : Placement

-- over tables and on these terms, with this placement and this break, whatever the terms have
abbrev pub over_by : Tables → Terms → Placement → Option (BreakOf Float) → Instance
over_by t terms placement rest =
    record {
      tables = t;
      capacity = space_of terms.capacity;
      fixed = terms.fixed;
      limits =
          record {
            max_distance = terms.limits.max_distance;
            max_duration = terms.limits.max_duration;
            rest = rest;
          };
      placement = placement;
    }

-- a record without its window and its penalty
abbrev pub bare_f : CustomerOf Float → CustomerOf Float
bare_f c = record { demand = c.demand; service = c.service; window = None; penalty = None }

-- by loads and closed legs alone, with such records and neither limits nor a break; or by all that the terms have
abbrev pub over_as : Bool → Tables → Terms → Instance
over_as alone t terms =
    let all = over_by t terms terms.placement (rest_of terms.limits.rest) in
    record {
      tables =
          record {
            customers = cond alone (map bare_f t.customers) t.customers;
            distances = t.distances;
            times = t.times;
            size = t.size;
          };
      capacity = all.capacity;
      fixed = all.fixed;
      limits = cond alone (record { max_distance = None; max_duration = None; rest = None }) all.limits;
      placement = all.placement;
    }

abbrev pub by_loads : Tables → Terms → Instance
by_loads = over_as true

abbrev pub over : Tables → Terms → Instance
over t terms = over_as terms.loads_alone t terms

abbrev pub lent_on : List Customer → List Float → List Float → ℕ → Terms → Instance
lent_on customers distances times size terms = over (Evaluation.lent customers distances times size) terms

abbrev pub lent : List Customer → List Float → List Float → ℕ → Space → Float → RouteLimits → Placement → Instance
lent customers distances times size capacity fixed limits placement =
    lent_on customers distances times size
    (record { capacity = capacity; fixed = fixed; limits = limits; placement = placement; loads_alone = false })

-- ---- a call without a break, reached at this time with so much lateness cost

-- late ends the run without a penalty; with one, penalty times lateness is added to the cost
unfoldable pub charge_f : WindowOf Float → Option Float → Float → Float → Option Float
charge_f w penalty time late =
    cond (late_f w time)
    (penalty >>= λ p. Some (Ieee.add binary64 late (Ieee.mul binary64 p (Ieee.sub binary64 time w.due))))
    (Some late)

-- then the window's opening is waited for
unfoldable pub enter_f : Option (WindowOf Float) → Option Float → Float → Float → Option Elapsed
enter_f None penalty time late = Some (record { time = time; late_cost = late })
enter_f (Some w) penalty time late =
    charge_f w penalty time late >>= λ l. Some (record { time = larger_f time w.ready; late_cost = l })

-- and the call served
unfoldable pub visit_f : CustomerOf Float → Float → Float → Option Elapsed
visit_f c time late =
    enter_f c.window c.penalty time late
    >>= λ x. Some (record { time = Ieee.add binary64 x.time c.service; late_cost = x.late_cost })

-- ---- the first m calls of a stretch, from the depot at time 0

module _ (t : Tables) (st : List ℕ) where
  -- without a break; a closed leg ends the run
  unfoldable pub timed_of : ℕ → Option Elapsed
  timed_of zero = Some (record { time = fl 0; late_cost = fl 0 })
  timed_of (suc m) = do
    x ← timed_of m
    g ← leg_f t (place_before st m) (get_or st m 0)
    visit_f (record_f t (get_or st m 0)) (joined_f x.time g.time (eqb m 0)) x.late_cost

  -- with one
  unfoldable pub clock_of : BreakOf Float → ℕ → Option ClockF
  clock_of b zero = Some (begun_f b)
  clock_of b (suc m) = do
    x ← clock_of b m
    g ← leg_f t (place_before st m) (get_or st m 0)
    Some (push_f x (get_or st m 0) (record_f t (get_or st m 0)) g.time)

-- home: how far a run is, how long it takes, and what is paid for lateness
pub record End : Type 0 where
  pub distance : Float
  pub duration : Float
  pub pay : Float

module _ (t : Tables) (st : List ℕ) (m : ℕ) where
  -- the leg home is the last
  abbrev pub back_of : Option Leg
  back_of = leg_f t (place_before st m) 0

  unfoldable pub end_of : Option (BreakOf Float) → Option End
  end_of None = do
    x ← timed_of t st m
    far ← way_of (leg_f t) st m
    back ← back_of
    Some (record { distance = far; duration = Ieee.add binary64 x.time back.time; pay = x.late_cost })
  end_of (Some b) = do
    x ← clock_of t st b m
    far ← way_of (leg_f t) st m
    back ← back_of
    s ← finish_f far back.time x
    Some (record { distance = far; duration = s.duration; pay = s.cost })

-- by the placement of the break: where the clock puts it, or with the best of all places
module _ (t : Tables) (st : List ℕ) (m : ℕ) (limits : LimitsF) where
  abbrev pub kept_of : KeptF
  kept_of = record { max_distance = limits.max_distance; max_duration = limits.max_duration }

  unfoldable pub least_end : Option (BreakOf Float) → Option End
  least_end None = end_of t st m None
  least_end (Some b) =
      least_of t st b kept_of m >>= λ s. Some (record { distance = s.distance; duration = s.duration; pay = s.cost })

  unfoldable pub end_by : Placement → Option End
  end_by Clock = end_of t st m limits.rest
  end_by Least = least_end limits.rest

abbrev pub pay_of : Option End → Float
pay_of None = fl 0
pay_of (Some e) = e.pay

-- ---- the price of a run

module _ (I : Instance) where
  abbrev pub end_in : List ℕ → ℕ → Option End
  end_in st m = end_by I.tables st m I.limits I.placement

  -- it has an end, and its totals are allowed
  unfoldable pub allowed_f : List ℕ → ℕ → Bool
  allowed_f st m =
      holds (end_in st m)
      (λ e. allow_f I.limits.max_distance I.limits.max_duration e.distance e.duration)

  unfoldable pub pay_f : List ℕ → ℕ → Float
  pay_f st m = pay_of (end_in st m)

  abbrev pub tariff : Tariff
  tariff =
      record {
        demand = demand_f I.tables.customers;
        capacity = I.capacity;
        leg = leg_f I.tables;
        fixed = I.fixed;
        allowed = allowed_f;
        pays = λ st m. pay_f st m ∷ [];
      }

-- ---- a row

-- what it reads: the calls held, the legs between them, and every place as numbers
pub record RowLists : Type 0 where
  pub held : List ℕ
  pub legs : LegLists
  pub stops : Numbers

abbrev pub row_lists : List ℕ → List Float → List Float → List ℕ → List Float → RowLists
row_lists held legs times codes figures = record { held = held; legs = leg_lists legs times; stops = numbers codes figures }

-- row i of calls that are few enough to be cut, each of one of the 64 places, can be filled
pub record RowReady (x : RowLists) (i : ℕ) (old : Table) : Type 0 where
  pub inside : i ≤ length x.held
  pub few : length x.held ≤ most_cut
  pub below : Below64 x.held
  pub legs-long : LegsLong x.legs
  pub stops-long : Long x.stops
  pub table-long : Sized old

-- row i of the calls held is filled, for whatever tables the lists are worked out from; r is how many calls it goes over
unfoldable pub Rowed : (Tables → Instance) → RowLists → ℕ → Table → Table → ℕ → Type 0
Rowed I x i old new r =
    (t : Tables) → StopsOf t x.held x.stops → LegsAre t x.held x.legs
    → RowOf (tariff (I t)) (drop i x.held) i old new × Ended (tariff (I t)) (drop i x.held) r
