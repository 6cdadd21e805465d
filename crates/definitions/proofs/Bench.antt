-- The sheets of the worked cases, and the answers that they come to. Definitions only.
use Prim.Native.Nat.{ℕ}
use mathlib.Core.Path.{◌≡◌}
use mathlib.Core.List.{List, [], ◌∷◌}
use Rattle.std.specs.Prelude.{Option, None, Some}
use Rattle.definitions.specs.Load.{of_seats}
use Rattle.definitions.specs.Sheet.{asking, Window, Break, Customer, Sheet, depot, drive}
use Rattle.definitions.specs.Window.{enter}
use Rattle.definitions.specs.Run.{serve_at, Totals, Run, ready, serve_all, closed_from, home, ride, placed, legal, run_cost}
use Rattle.definitions.specs.Clock.{clock_from, clock, start_of, arc}
use Rattle.definitions.specs.Placement.{ride_at, least_ride, least_arc}
use Rattle.definitions.specs.Evaluation.{route_eval, least_eval, route_feasible, effective_cost}
use Rattle.definitions.specs.Cutting.{points_from, cheapest, stuck}
use Rattle.definitions.specs.Drop.{drop_from, drops, Result, split_tw, split_least, plain_arc, split}
use Rattle.definitions.specs.Visits.{visited, visits_from, windows_from, last_label, open_route, build_route}
use Rattle.definitions.specs.Marker.{walk_fault, run_fault, mark_against}

-- what the cases are computed through
unfoldable pub opened : Unit {0}
unfolding split_tw split_least drops drop_from stuck cheapest points_from arc clock clock_from serve_at ready enter split plain_arc drive closed_from home
    route_eval least_eval route_feasible effective_cost start_of serve_all ride placed legal
    ride_at least_ride least_arc run_cost visited visits_from windows_from last_label open_route build_route mark_against run_fault walk_fault
opened = tt

-- ---- the sheets: places 3, demands 2, fixed 0, no service

abbrev pub window : ℕ → ℕ → Option Window
window ready due = Some (record { ready = ready; due = due })

abbrev pub pause : ℕ → ℕ → ℕ → Option Break
pause earliest latest duration = Some (record { earliest = earliest; latest = latest; duration = duration })

abbrev pub person : Option Window → Option ℕ → Customer
person window penalty = asking (of_seats 2) 0 window penalty

abbrev pub anyone : Customer
anyone = person None None

abbrev pub sheet : (capacity : ℕ) (legs : List ℕ) (max_distance max_duration : Option ℕ) (rest : Option Break) (first : Customer) → Sheet
sheet capacity legs max_distance max_duration rest first =
    record {
      head = record { places = 3; capacity = of_seats capacity; fixed = 0; max_distance = max_distance; max_duration = max_duration; rest = rest };
      customers = depot ∷ first ∷ anyone ∷ [];
      legs = record { distances = legs; times = [] };
    }

-- legs 0-1 10, 0-2 12, 1-2 5 both ways
abbrev pub legs : List ℕ
legs = 0 ∷ 10 ∷ 12 ∷ 10 ∷ 0 ∷ 5 ∷ 12 ∷ 5 ∷ 0 ∷ []

abbrev pub base : Sheet
base = sheet 4 legs None None None anyone

abbrev pub carrying : ℕ → Sheet
carrying capacity = sheet capacity legs None None None anyone

-- customer 1 is asked for by due
abbrev pub until : ℕ → Option ℕ → Sheet
until due penalty = sheet 4 legs None None None (person (window 0 due) penalty)

abbrev pub limited : ℕ → Sheet
limited limit = sheet 4 legs (Some limit) None None anyone

abbrev pub rested : ℕ → ℕ → ℕ → Sheet
rested earliest latest duration = sheet 4 legs None None (pause earliest latest duration) anyone

-- break 0, 30, 4; customer 1 has a window and a penalty
abbrev pub late : ℕ → ℕ → ℕ → Sheet
late ready due penalty = sheet 4 legs None None (pause 0 30 4) (person (window ready due) (Some penalty))

-- base with a time table of its own: 1 to customer 1, 2 on to customer 2, 4 home, and 8 from depot to depot
abbrev pub timed : Sheet
timed =
    record {
      head = record { places = 3; capacity = of_seats 4; fixed = 0; max_distance = None; max_duration = None; rest = None };
      customers = depot ∷ anyone ∷ anyone ∷ [];
      legs = record { distances = legs; times = 8 ∷ 1 ∷ 9 ∷ 9 ∷ 9 ∷ 2 ∷ 4 ∷ 9 ∷ 9 ∷ [] };
    }

-- a sheet with all that one may have; each customer can be served alone, so that of no tour a call is dropped
abbrev pub full : Sheet
full =
    record {
      head = record { places = 6; capacity = of_seats 4; fixed = 3; max_distance = Some 60; max_duration = Some 80; rest = pause 24 30 4 };
      customers = depot
          ∷ asking (of_seats 1) 1 (window 0 14) None
          ∷ asking (of_seats 2) 0 None None
          ∷ asking (of_seats 1) 20 (window 0 31) None
          ∷ asking (of_seats 1) 3 None None
          ∷ asking (of_seats 1) 1 (window 26 27) (Some 5)
          ∷ [];
      legs = record {
        distances = 0 ∷ 10 ∷ 12 ∷ 25 ∷ 20 ∷ 6
            ∷ 10 ∷ 0 ∷ 5 ∷ 16 ∷ 15 ∷ 9
            ∷ 12 ∷ 5 ∷ 0 ∷ 20 ∷ 30 ∷ 3
            ∷ 25 ∷ 16 ∷ 20 ∷ 0 ∷ 20 ∷ 20
            ∷ 20 ∷ 15 ∷ 30 ∷ 20 ∷ 0 ∷ 20
            ∷ 6 ∷ 9 ∷ 3 ∷ 20 ∷ 20 ∷ 0
            ∷ [];
        times = [];
      };
    }

abbrev pub tour : List ℕ
tour = 1 ∷ 2 ∷ []

-- ---- the answers

-- one run with both calls
abbrev pub together : ℕ → ℕ → ℕ → Result
together cost distance place =
    record { served = tour; ends = 2 ∷ []; dropped = []; cost = cost; distance = distance; places = place ∷ [] }

-- runs 1 and 2
abbrev pub apart : Result
apart = record { served = tour; ends = 1 ∷ 2 ∷ []; dropped = []; cost = 44; distance = 44; places = 0 ∷ 0 ∷ [] }

-- one run with one call, the other dropped
abbrev pub single : ℕ → ℕ → ℕ → Result
single customer position cost =
    record { served = customer ∷ []; ends = 1 ∷ []; dropped = position ∷ []; cost = cost; distance = cost; places = 0 ∷ [] }

abbrev pub nothing_served : List ℕ → Result
nothing_served dropped = record { served = []; ends = []; dropped = dropped; cost = 0; distance = 0; places = [] }

abbrev pub totals : (distance duration lateness pay place : ℕ) → Totals
totals distance duration lateness pay place =
    record { distance = distance; duration = duration; lateness = lateness; pay = pay; place = place }

-- the run 1 2 by the clock, nothing late: its break place, the break's start, and when it is home
abbrev pub evaluated : Sheet → ℕ → ℕ → ℕ → Type 0
evaluated s place at home = route_eval s tour ≡ Some (record { totals = totals 27 home 0 0 place; start = Some at })

abbrev pub run : List ℕ → ℕ → Run
run calls place = record { calls = calls; place = place }
