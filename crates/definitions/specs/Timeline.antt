-- The timeline of a run whose break is at a given place: its visits with when break and service start, its totals, and all that it
-- violates. Where the place is the clock's these are the visits of `build_route` (timeline/proofs/AtTheClock). Definitions only.
use Rattle.std.specs.Prelude.{ℕ, suc, Bool, true, false, not, ◌&&◌, ◌||◌, List, [], ◌∷◌, map, eqb, Option, None, Some}
use Rattle.basics.specs.Options.{◌>>=◌, present, value_or, given, or_else}
use Rattle.basics.specs.Lists.{is_empty}
use Rattle.definitions.specs.Load.{Load, no_load, plus}
use Rattle.definitions.specs.Sheet.{Break, Sheet, customer}
use Rattle.definitions.specs.Window.{begins}
use Rattle.definitions.specs.Limits.{excused}
use Rattle.definitions.specs.Run.{break_start, too_late, Label, start, Run, break_at, first_closed, Totals, home, load}
use Rattle.definitions.specs.Visits.{Visit, Violation, closed_leg, arrives_at, ready_for, visited, windows_from, last_label, no_totals, violations_of, Route}

-- ---- the stops of a run

-- a call with its times
pub record Stop : Type 0 where
  pub visit : Visit
  -- when the break starts, if it is taken here
  pub rest : Option ℕ
  -- when the service starts
  pub begin : ℕ

-- The break at a call that is reached at `arrival`, if it is here: when it starts. Past latest it is not taken, and left out of the times.
abbrev pub rest_start : Option Break → ℕ → Option ℕ
rest_start here arrival = here >>= λ b. given (not (too_late b arrival)) (break_start b arrival)

-- the calls from number k on, with the break at `place`, from a with the label l and the load n: as they are visited
module _ (s : Sheet) (place : ℕ) where
  unfoldable pub stops_from : ℕ → ℕ → Label → Load → List ℕ → List Stop
  stops_from k a l n [] = []
  stops_from k a l n (c ∷ cs) =
      let here = break_at s place k in
      let arrival = arrives_at s a c l in
      let m = visited s here k a c l in
      let load = plus n (customer s c).demand in
      record {
        visit = record { customer = c; arrival = arrival; departure = m.time; load = load };
        rest = rest_start here arrival;
        begin = begins (customer s c).window (ready_for s here a c l);
      }
      ∷ stops_from (suc k) c m load cs

-- when the break of these stops starts, if it is taken at one of them
abbrev pub rest_of : List Stop → Option ℕ
rest_of [] = None
rest_of (x ∷ xs) = or_else x.rest (rest_of xs)

-- ---- the timeline

pub record Timeline : Type 0 where
  pub stops : List Stop
  -- distance, duration, lateness, lateness pay and break place
  pub totals : Totals
  pub load : Load
  pub violations : List Violation

-- A run needs its break and does not take it: at the given place it would start past latest, or no place is given and the run is home too
-- late to be excused.
abbrev pub untaken : Option Break → ℕ → List Stop → ℕ → Bool
untaken None place stops duration = false
untaken (Some b) place stops duration = not (present (rest_of stops) || (eqb place 0 && excused b duration))

-- of a run with a closed leg nothing but that is told
abbrev pub closed_timeline : ℕ → Timeline
closed_timeline leg = record { stops = []; totals = no_totals; load = no_load; violations = closed_leg leg ∷ [] }

-- Of a run without one. It has a way home, so `no_totals` is never read.
unfoldable pub open_timeline : Sheet → Run → Timeline
open_timeline s r =
    let stops = stops_from s r.place 1 0 start no_load r.calls in
    let windows = windows_from s r.place 1 0 start r.calls in
    let totals = value_or no_totals (home s r.calls (last_label s r.place 1 0 start r.calls)) in
    let told = untaken s.head.rest r.place stops totals.duration && is_empty windows in
    record {
      stops = stops;
      totals = totals;
      load = load s r.calls;
      violations = violations_of s r.calls windows told totals;
    }

unfoldable pub timeline : Sheet → Run → Timeline
timeline s r =
    elim (first_closed s r.calls) [
      | Some leg ↦ closed_timeline leg
      | None ↦ open_timeline s r
    ]

-- the same as a route
abbrev pub route_of : Timeline → Route
route_of t =
    record {
      visits = map (λ x. x.visit) t.stops;
      totals = t.totals;
      load = t.load;
      start = rest_of t.stops;
      violations = t.violations;
    }
