-- What the cut reads of each place and leg, worked out once and held as numbers in lists that are lent on. Definitions only.
use Rattle.std.specs.Prelude.{ℕ, ◌*◌, ◌+◌, ◌<◌, ◌≤◌, ◌≡◌, cond, List, [], ◌∷◌, map, ◌≢◌, length, get_or, eqb, Float, Option, None, Some}
use Rattle.std.specs.Float.{nan}
use Rattle.basics.specs.Lists.{count}
use Rattle.basics.specs.Options.{◌>>=◌}
use Rattle.cut_theory.specs.Tab.{most_cut}
use Rattle.definitions.specs.Domain.{no_road}
use Rattle.definitions.specs.Sheet.{WindowOf, CustomerOf}
use Rattle.distance.specs.declared.leg.Leg.{Leg}
use Rattle.distance.specs.Lookup.{road_f}
use Rattle.models.specs.Records.{customer_of}
use Rattle.whole.specs.Whole.{fl}
use Rattle.evaluation.specs.Records.{Tables}
use Rattle.evaluation.specs.Tables.{record_f, leg_f, place_before}
use Rattle.cut_stops.specs.declared.stops.Stop.{Stop}

-- a place as a stop: its record, and the legs from the depot and home, in distance and in time, as the lists have them
pub record StopF : Type 0 where
  pub customer : CustomerOf Float
  pub out : Float
  pub back : Float
  pub time_out : Float
  pub time_back : Float

abbrev pub stop_of : Stop → StopF
stop_of s = record { customer = customer_of s.customer; out = s.out; back = s.back; time_out = s.time_out; time_back = s.time_back }

-- a leg as the lists have it: its two numbers, and for a closed one in both what stands for it
unfoldable pub listed_as : Float → Option Leg → Leg
listed_as shut None = record { distance = shut; time = shut }
listed_as shut (Some leg) = leg

-- to a call, where that is the tables' number of no road; and home, where it is NaN, and so is the cost of the run that ends with it, which
-- is then below no other cost and never taken
abbrev pub listed_leg : Option Leg → Leg
listed_leg = listed_as (fl no_road)

abbrev pub listed_home : Option Leg → Leg
listed_home = listed_as nan

-- the leg that two numbers of the tables are
unfoldable pub pair_f : Float → Float → Option Leg
pair_f distance time = do
  d ← road_f distance
  t ← road_f time
  Some (record { distance = d; time = t })

-- what the numbers listed of a leg to a call say: the distance alone tells whether the leg is closed
unfoldable pub leg_by : Float → Float → Option Leg
leg_by distance time = road_f distance >>= λ d. Some (record { distance = d; time = time })

-- place c, whose record this is, by these legs
abbrev pub place_by : CustomerOf Float → (ℕ → ℕ → Option Leg) → ℕ → StopF
place_by customer leg c =
    let out = listed_leg (leg 0 c) in
    let back = listed_home (leg c 0) in
    record { customer = customer; out = out.distance; back = back.distance; time_out = out.time; time_back = back.time }

-- what the tables say of place c
unfoldable pub stop_in : Tables → ℕ → StopF
stop_in t c = place_by (record_f t c) (leg_f t) c

-- ---- a stop as numbers

-- a window and a penalty from a code, which is 1 where there is one
abbrev pub opening_at : ℕ → Float → Float → Option (WindowOf Float)
opening_at windowed ready due = cond (eqb windowed 1) (Some (record { ready = ready; due = due })) None

abbrev pub penalty_at : ℕ → Float → Option Float
penalty_at charged each = cond (eqb charged 1) (Some each) None

-- and as one; zeros stand where there is none
abbrev pub code : {A : Type 0} → Option A → ℕ
code None = 0
code (Some x) = 1

abbrev pub times_in : Option (WindowOf Float) → WindowOf Float
times_in None = record { ready = fl 0; due = fl 0 }
times_in (Some w) = w

abbrev pub price_in : Option Float → Float
price_in None = fl 0
price_in (Some p) = p

-- a record as codes (demand in each measure, window, penalty) and four figures, and a stop as these and four figures before them
unfoldable pub codes_of : CustomerOf Float → List ℕ
codes_of x = x.demand.seats ∷ x.demand.wheelchairs ∷ code x.window ∷ code x.penalty ∷ []

abbrev pub record_figures : CustomerOf Float → List Float
record_figures x = x.service ∷ (times_in x.window).ready ∷ (times_in x.window).due ∷ price_in x.penalty ∷ []

abbrev pub leg_figures : (ℕ → ℕ → Option Leg) → ℕ → List Float
leg_figures leg c =
    let out = listed_leg (leg 0 c) in
    let back = listed_home (leg c 0) in
    out.distance ∷ back.distance ∷ out.time ∷ back.time ∷ []

unfoldable pub figures_of : StopF → List Float
figures_of s = s.out ∷ s.back ∷ s.time_out ∷ s.time_back ∷ record_figures s.customer

-- so many codes and figures for each place
abbrev pub codes_each : ℕ
codes_each = 4

abbrev pub figures_each : ℕ
figures_each = 8

-- ---- every place as numbers, in two lists

pub record Numbers : Type 0 where
  pub codes : List ℕ
  pub figures : List Float

abbrev pub numbers : List ℕ → List Float → Numbers
numbers codes figures = record { codes = codes; figures = figures }

-- as long as 64 places need
abbrev pub all_codes : ℕ
all_codes = 64 * codes_each

abbrev pub all_figures : ℕ
all_figures = 64 * figures_each

pub record Long (x : Numbers) : Type 0 where
  pub codes-long : length x.codes ≡ all_codes
  pub figures-long : length x.figures ≡ all_figures

-- what the lists hold of place c
unfoldable pub stop_at : Numbers → ℕ → StopF
stop_at x c =
    let f : ℕ → Float = λ k. get_or x.figures (figures_each * c + k) nan in
    let n : ℕ → ℕ = λ k. get_or x.codes (codes_each * c + k) 0 in
    record {
      customer =
          record {
            demand = record { seats = n 0; wheelchairs = n 1 };
            service = f 4;
            window = opening_at (n 2) (f 5) (f 6);
            penalty = penalty_at (n 3) (f 7);
          };
      out = f 0;
      back = f 1;
      time_out = f 2;
      time_back = f 3;
    }

-- place c is put into the lists as s, and the other places stay
pub record Put (old : Numbers) (c : ℕ) (s : StopF) (new : Numbers) : Type 0 where
  pub long : Long new
  pub here : stop_at new c ≡ s
  pub others : (k : ℕ) → k ≢ c → stop_at new k ≡ stop_at old k

-- the lists hold the places of the first n of these calls as the tables have them
pub record StopsTo (t : Tables) (calls : List ℕ) (x : Numbers) (n : ℕ) : Type 0 where
  pub long : Long x
  pub stops-are : (k : ℕ) → k < n → stop_at x (get_or calls k 0) ≡ stop_in t (get_or calls k 0)

abbrev pub StopsOf : Tables → List ℕ → Numbers → Type 0
StopsOf t calls x = StopsTo t calls x (length calls)

-- the records of the 64 places, and tables with these records
unfoldable pub records_in : Numbers → List (CustomerOf Float)
records_in x = map (λ c. (stop_at x c).customer) (count 0 64)

abbrev pub listed : Numbers → List Float → List Float → ℕ → Tables
listed x distances times size = record { customers = records_in x; distances = distances; times = times; size = size }

-- calls of the 64 places
unfoldable pub Below64 : List ℕ → Type 0
Below64 calls = (k : ℕ) → k < length calls → get_or calls k 0 < 64

-- ---- the legs between the calls held

-- each from the call before it, in distance and in time
pub record LegLists : Type 0 where
  pub distances : List Float
  pub times : List Float

abbrev pub leg_lists : List Float → List Float → LegLists
leg_lists distances times = record { distances = distances; times = times }

-- there is a leg for each of the calls that are cut
pub record LegsLong (legs : LegLists) : Type 0 where
  pub distances-long : length legs.distances ≡ most_cut
  pub times_long : length legs.times ≡ most_cut

-- leg number k of the calls held, by these legs
pub record LegIs (by : ℕ → ℕ → Option Leg) (held : List ℕ) (legs : LegLists) (k : ℕ) : Type 0 where
  pub distance_is : get_or legs.distances k nan ≡ (listed_leg (by (place_before held k) (get_or held k 0))).distance
  pub time-is : get_or legs.times k nan ≡ (listed_leg (by (place_before held k) (get_or held k 0))).time

-- each leg but the first, by these legs, and by those of the tables
unfoldable pub LegsBy : (ℕ → ℕ → Option Leg) → List ℕ → LegLists → Type 0
LegsBy by held legs = (k : ℕ) → 0 < k → k < length held → LegIs by held legs k

abbrev pub LegsAre : Tables → List ℕ → LegLists → Type 0
LegsAre t held legs = LegsBy (leg_f t) held legs

-- the legs are written from number `from` on, and what stands before stays
pub record LegsWritten (by : ℕ → ℕ → Option Leg) (held : List ℕ) (from : ℕ) (old new : LegLists) : Type 0 where
  pub long : LegsLong new
  pub written : (k : ℕ) → from ≤ k → 0 < k → k < length held → LegIs by held new k
  pub kept : (k : ℕ) → k < from
      → (get_or new.distances k nan ≡ get_or old.distances k nan) × (get_or new.times k nan ≡ get_or old.times k nan)
