-- A run leaves the depot, serves some calls in order and returns. It is a route of Solomon's problem (1987): within capacity, each service
-- started in its window, and each start carried forward along the legs to the next arrival; the break is added. Definitions only.
use Rattle.std.specs.Prelude.{ℕ, zero, suc, ◌+◌, max, Bool, cond, not, ◌&&◌, List, [], ◌∷◌, length, ltb, leb, eqb, Option, None, Some, option_map}
use Rattle.basics.specs.Options.{◌>>=◌, holds, present, value_or}
use Rattle.basics.specs.Lists.{is_empty}
use Rattle.definitions.specs.Load.{Load, load_by, fits_by}
use Rattle.definitions.specs.Sheet.{Break, Customer, Sheet, customer, drive}
use Rattle.definitions.specs.Window.{enter}
use Rattle.definitions.specs.Limits.{allow, excused}

-- ---- the break at a call

-- it starts at the later of arrival and earliest
abbrev pub break_start : Break → ℕ → ℕ
break_start b arrival = max arrival b.earliest

-- it fails when that exceeds latest
abbrev pub too_late : Break → ℕ → Bool
too_late b arrival = ltb b.latest (break_start b arrival)

-- readiness: after the break, if it is here, and else the arrival
unfoldable pub ready : Option Break → ℕ → Option ℕ
ready None arrival = Some arrival
ready (Some b) arrival = cond (too_late b arrival) None (Some (break_start b arrival + b.duration))

-- ---- serving a call

-- a label: time, lateness, lateness cost and break place, with some calls served
pub record Label : Type 0 where
  pub time : ℕ
  pub lateness : ℕ
  -- the lateness cost: lateness pay so far
  pub pay : ℕ
  -- the number of the call at which the break was taken, from 1, or 0
  pub place : ℕ

-- a run starts at time 0, nothing late
abbrev pub start : Label
start = record { time = 0; lateness = 0; pay = 0; place = 0 }

abbrev pub place_after : Option Break → ℕ → ℕ → ℕ
place_after None k place = place
place_after (Some b) k place = k

-- the run's call number k, at customer c, a travel time away, with the break there if `here` has one
unfoldable pub serve_at : Customer → Option Break → ℕ → ℕ → Label → Option Label
serve_at c here k travel l = do
  readiness ← ready here (l.time + travel)
  e ← enter c.window c.penalty readiness
  Some (record {
    time = e.start + c.service;
    lateness = l.lateness + e.lateness;
    pay = l.pay + e.pay;
    place = place_after here k l.place;
  })

-- the same from place a to customer c of the sheet; a closed leg serves nobody
abbrev pub serve : Sheet → Option Break → ℕ → ℕ → ℕ → Label → Option Label
serve s here k a c l = drive s a c >>= λ leg. serve_at (customer s c) here k leg.travel l

-- ---- a run with a given break place: its calls are served as above, the break at that call alone

pub record Run : Type 0 where
  -- its calls, as customers
  pub calls : List ℕ
  -- one of its own calls, 1 up, or 0 for none
  pub place : ℕ

-- the break, at the call that has it alone
abbrev pub break_at : Sheet → ℕ → ℕ → Option Break
break_at s place k = cond (eqb place k) s.head.rest None

-- the calls from number k on, served from a with the label m
unfoldable pub serve_all : Sheet → ℕ → ℕ → ℕ → Option Label → List ℕ → Option Label
serve_all s place k a m [] = m
serve_all s place k a m (c ∷ cs) = serve_all s place (suc k) c (m >>= serve s (break_at s place k) k a c) cs

-- the last place before the return
abbrev pub last_of : ℕ → List ℕ → ℕ
last_of a [] = a
last_of a (c ∷ cs) = last_of c cs

-- all legs from a on, the one to the depot too; none where one of them is closed
abbrev pub distance_from : Sheet → ℕ → List ℕ → Option ℕ
distance_from s a [] = option_map (λ leg. leg.length) (drive s a 0)
distance_from s a (c ∷ cs) = do
  leg ← drive s a c
  rest ← distance_from s c cs
  Some (leg.length + rest)

-- the number of the first closed leg from a on, where that leg is number k: in a run leg 1 leaves the depot
unfoldable pub closed_from : Sheet → ℕ → ℕ → List ℕ → Option ℕ
closed_from s k a [] = cond (present (drive s a 0)) None (Some k)
closed_from s k a (c ∷ cs) = cond (present (drive s a c)) (closed_from s (suc k) c cs) (Some k)

abbrev pub first_closed : Sheet → List ℕ → Option ℕ
first_closed s calls = closed_from s 1 0 calls

-- what a run comes to
pub record Totals : Type 0 where
  -- all its legs, both depot legs too
  pub distance : ℕ
  -- the time at home
  pub duration : ℕ
  pub lateness : ℕ
  -- the lateness cost: its lateness pay
  pub pay : ℕ
  -- its break place
  pub place : ℕ

-- from the last call home; none where a leg of the run is closed
unfoldable pub home : Sheet → List ℕ → Label → Option Totals
home s calls l = do
  distance ← distance_from s 0 calls
  back ← drive s (last_of 0 calls) 0
  Some (record {
    distance = distance;
    duration = l.time + back.travel;
    lateness = l.lateness;
    pay = l.pay;
    place = l.place;
  })

-- the run's totals, if nothing fails
unfoldable pub ride : Sheet → Run → Option Totals
ride s r = do
  l ← serve_all s r.place 1 0 (Some start) r.calls
  home s r.calls l

-- ---- legal runs

-- the load of a sheet's calls, and whether it is at most capacity
abbrev pub load : Sheet → List ℕ → Load
load s calls = load_by (λ c. (customer s c).demand) calls

abbrev pub fits : Sheet → List ℕ → Bool
fits s calls = fits_by (λ c. (customer s c).demand) s.head.capacity calls

-- its totals are allowed
abbrev pub allowed : Sheet → Totals → Bool
allowed s t = allow s t.distance t.duration

-- A place that the break may have in a run of n calls that is home at `duration`: with 0 on a sheet with a break it is excused; a break not
-- needed may be taken; on a sheet without one only 0 is legal.
unfoldable pub placed : Option Break → ℕ → ℕ → ℕ → Bool
placed None place n duration = eqb place 0
placed (Some b) zero n duration = excused b duration
placed (Some b) (suc k) n duration = leb (suc k) n

-- Legal with its break place: it is not empty, its load is at most capacity, no leg is closed and no call fails, its totals
-- are allowed, and the break may be there.
unfoldable pub legal : Sheet → Run → Bool
legal s r =
    not (is_empty r.calls) && fits s r.calls
    && holds (ride s r) (λ t. allowed s t && placed s.head.rest r.place (length r.calls) t.duration)

-- run cost: fixed cost + distance + lateness pay
abbrev pub price : Sheet → ℕ → ℕ → ℕ
price s distance pay = s.head.fixed + distance + pay

-- the lateness pay, where nothing fails
abbrev pub pay_of : Option Totals → ℕ
pay_of None = 0
pay_of (Some t) = t.pay

-- how far a run goes. No cutting has a run with a closed leg, so the 0 is never read.
abbrev pub length_of : Sheet → List ℕ → ℕ
length_of s calls = value_or 0 (distance_from s 0 calls)

-- what the run costs with its break place
unfoldable pub run_cost : Sheet → Run → ℕ
run_cost s r = price s (length_of s r.calls) (pay_of (ride s r))
