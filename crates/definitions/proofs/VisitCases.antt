-- `build_route` on small sheets: visits, totals, and each violation with its figures and in its order. Each holds by computation. Assumes nothing.
use Prim.Native.Nat.{ℕ}
use mathlib.Core.Path.{◌≡◌, refl}
use mathlib.Core.List.{List, [], ◌∷◌}
use Rattle.std.specs.Prelude.{Option, None, Some}
use Rattle.definitions.specs.Load.{of_seats}
use Rattle.definitions.specs.Sheet.{Sheet}
use Rattle.definitions.specs.Run.{Totals}
use Rattle.definitions.specs.Visits.{Visit, Violation, window_shut, break_not_placeable, over_capacity, over_distance, over_duration, build_route}
use Rattle.definitions.proofs.Bench.{opened, window, pause, person, anyone, sheet, legs, until, rested, late, timed, full, tour, totals}

abbrev visit : (customer arrival departure load : ℕ) → Visit
visit customer arrival departure load = record { customer = customer; arrival = arrival; departure = departure; load = of_seats load }

-- the run comes to these visits, totals, load, break start and violations
abbrev Builds : Sheet → List ℕ → List Visit → Totals → ℕ → Option ℕ → List Violation → Type 0
Builds s calls visits t load start violations =
    build_route s calls ≡ record { visits = visits; totals = t; load = of_seats load; start = start; violations = violations }

-- the run 1 2 of base with nothing to hold it up
abbrev straight : List Visit
straight = visit 1 10 10 2 ∷ visit 2 15 15 4 ∷ []

-- ---- no violation

-- case m: there at 15, the break from 20 to 24, then served
pub visits-m : Builds (rested 20 30 4) tour (visit 1 10 10 2 ∷ visit 2 15 24 4 ∷ []) (totals 27 36 0 0 2) 4 (Some 20) []
unfolding opened
visits-m = refl

-- case q: there at 10, the break to 14, late by 1 at 5 each; a soft late call is no violation
pub visits-q : Builds (late 12 13 5) tour (visit 1 10 14 2 ∷ visit 2 19 19 4 ∷ []) (totals 27 31 1 5 1) 4 (Some 10) []
unfolding opened
visits-q = refl

-- without a break: late by 1 at 3 each
pub visits-h : Builds (until 9 (Some 3)) tour straight (totals 27 27 1 3 0) 4 None []
unfolding opened
visits-h = refl

-- customer 1 is open from 12 on: there at 10, gone at 12
pub visits-waiting : Builds (sheet 4 legs None None None (person (window 12 13) None)) tour (visit 1 10 12 2 ∷ visit 2 17 17 4 ∷ []) (totals 27 29 0 0 0) 4 None []
unfolding opened
visits-waiting = refl

-- service 1 at customer 1, and the break at the second call
pub visits-full : Builds full tour (visit 1 10 11 1 ∷ visit 2 16 28 3 ∷ []) (totals 27 40 0 0 2) 3 (Some 24) []
unfolding opened
visits-full = refl

-- arrivals by the times, the distance by the distances
pub visits-timed : Builds timed tour (visit 1 1 1 2 ∷ visit 2 3 3 4 ∷ []) (totals 27 7 0 0 0) 4 None []
unfolding opened
visits-timed = refl

-- ---- violations

-- case g's run 1 2 with capacity 3 and distance limit 26: the window of customer 1, the load, the distance
pub visits-g : Builds (sheet 3 legs (Some 26) None None (person (window 0 9) None)) tour straight (totals 27 27 0 0 0) 4 None (window_shut 1 10 9 ∷ over_capacity 4 3 ∷ over_distance 27 26 ∷ [])
unfolding opened
visits-g = refl

-- distance before duration
pub visits-limits : Builds (sheet 4 legs (Some 26) (Some 25) None anyone) tour straight (totals 27 27 0 0 0) 4 None (over_distance 27 26 ∷ over_duration 27 25 ∷ [])
unfolding opened
visits-limits = refl

-- duration alone: it is home at 36 because of the break
pub visits-too-long : Builds (sheet 4 legs (Some 27) (Some 35) (pause 20 30 4) anyone) tour (visit 1 10 10 2 ∷ visit 2 15 24 4 ∷ []) (totals 27 36 0 0 2) 4 (Some 20) (over_duration 36 35 ∷ [])
unfolding opened
visits-too-long = refl

-- at the limits there is none
pub visits-at-limits : Builds (sheet 4 legs (Some 27) (Some 36) (pause 20 30 4) (person (window 0 10) None)) tour (visit 1 10 10 2 ∷ visit 2 15 24 4 ∷ []) (totals 27 36 0 0 2) 4 (Some 20) []
unfolding opened
visits-at-limits = refl

-- windows by visit, and nothing of the break beside them: customer 1 until 14, customer 3 until 31
pub visits-windows : Builds full (2 ∷ 1 ∷ 3 ∷ []) (visit 2 12 12 2 ∷ visit 1 17 18 3 ∷ visit 3 34 54 4 ∷ []) (totals 58 79 0 0 0) 4 None (window_shut 1 17 14 ∷ window_shut 3 34 31 ∷ [])
unfolding opened
visits-windows = refl

-- ---- a break that is not placeable

-- case o: it is left out of the visit times, and is all that is wrong
pub visits-o : Builds (rested 5 9 4) tour straight (totals 27 27 0 0 0) 4 None (break_not_placeable ∷ [])
unfolding opened
visits-o = refl

-- before load, distance and duration
pub visits-break-first : Builds (sheet 3 legs (Some 26) (Some 25) (pause 5 9 4) anyone) tour straight (totals 27 27 0 0 0) 4 None
    (break_not_placeable ∷ over_capacity 4 3 ∷ over_distance 27 26 ∷ over_duration 27 25 ∷ [])
unfolding opened
visits-break-first = refl

-- a window missed besides: only that
pub visits-window-and-break : Builds (sheet 4 legs None None (pause 5 9 4) (person (window 0 9) None)) tour straight (totals 27 27 0 0 0) 4 None (window_shut 1 10 9 ∷ [])
unfolding opened
visits-window-and-break = refl

-- the window holds without the break, and does not with it: the break is what is not placeable
pub visits-break-at-window : Builds (sheet 4 legs None None (pause 5 12 4) (person (window 0 13) None)) tour straight (totals 27 27 0 0 0) 4 None (break_not_placeable ∷ [])
unfolding opened
visits-break-at-window = refl

-- the empty run, with a leg of 7 from depot to depot
pub visits-empty : Builds (sheet 4 (7 ∷ []) None None (pause 6 30 4) anyone) [] [] (totals 7 7 0 0 0) 0 None (break_not_placeable ∷ [])
unfolding opened
visits-empty = refl
