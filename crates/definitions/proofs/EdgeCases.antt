-- The edge of the break: a run home at earliest needs it, one home earlier is excused. Customer 1 alone is home at 20; case n (Cases) has
-- its break from 20. Each holds by computation. Assumes nothing.
use Prim.Native.Nat.{ℕ}
use native.Mathlib.Omega.{arith}
use mathlib.Core.Path.{◌≡◌, refl}
use mathlib.Core.Bool.{true, false}
use mathlib.Core.List.{List, [], ◌∷◌}
use Rattle.std.specs.Prelude.{Option, None, Some}
use borrow.Author.Tests.{le-ltb}
use Rattle.definitions.specs.Load.{of_seats}
use Rattle.definitions.specs.Sheet.{Break}
use Rattle.definitions.specs.Limits.{excused}
use Rattle.definitions.specs.Run.{legal}
use Rattle.definitions.specs.Evaluation.{route_eval, route_feasible}
use Rattle.definitions.specs.Drop.{split_tw}
use Rattle.definitions.specs.Visits.{build_route}
use Rattle.definitions.specs.Marker.{Verdict, break_missing, mark}
use Rattle.definitions.proofs.Bench.{opened, window, pause, person, sheet, legs, rested, nothing_served, totals, run}

abbrev one : List ℕ
one = 1 ∷ []

-- the planner has customer 1 home then, with the break at this place and start
abbrev Plans : (earliest place home : ℕ) → Option ℕ → Type 0
Plans earliest place home start =
    (split_tw (rested earliest 30 4) one ≡ record { served = one; ends = one; dropped = []; cost = 20; distance = 20; places = place ∷ [] })
    × (route_eval (rested earliest 30 4) one ≡ Some (record { totals = totals 20 home 0 0 place; start = start }))

-- the mark of customer 1 alone with its break at this place
abbrev marked : (earliest place : ℕ) → Verdict
marked earliest place = mark (rested earliest 30 4) one (run one place ∷ [])

-- home one before earliest
pub edge-before : Plans 21 0 20 None
unfolding opened
edge-before = (refl, refl)

-- home one after it
pub edge-after : Plans 19 1 33 (Some 19)
unfolding opened
edge-after = (refl, refl)

-- without the break the run is legal for no rival either
pub edge-legal : (legal (rested 21 30 4) (run one 0) ≡ true) × (legal (rested 20 30 4) (run one 0) ≡ false) × (legal (rested 20 30 4) (run one 1) ≡ true)
unfolding opened
edge-legal = (refl, refl, refl)

-- home at earliest, and with the break after due: dropped
pub edge-dropped : split_tw (sheet 4 legs None None (pause 20 30 4) (person (window 0 23) None)) one ≡ nothing_served one
unfolding opened
edge-dropped = refl

-- a missing break's value is its limit
pub marked-at-earliest : (marked 20 0 ≡ break_missing 1 20 20) × (marked 20 1 ≡ Verdict.best)
unfolding opened
marked-at-earliest = (refl, refl)

-- not needed it may be taken
pub marked-before-earliest : (marked 21 0 ≡ Verdict.best) × (marked 21 1 ≡ Verdict.best)
unfolding opened
marked-before-earliest = (refl, refl)

pub marked-after-earliest : (marked 19 0 ≡ break_missing 1 20 19) × (marked 19 1 ≡ Verdict.best)
unfolding opened
marked-after-earliest = (refl, refl)

-- the visit of case n: there at 10, the break from 20 to 24, then served
pub visit-at-earliest : build_route (rested 20 30 4) one
    ≡ record { visits = record { customer = 1; arrival = 10; departure = 24; load = of_seats 2 } ∷ []; totals = totals 20 34 0 0 1; load = of_seats 2; start = Some 20; violations = [] }
unfolding opened
visit-at-earliest = refl

-- with earliest 0 nobody is excused
pub never-excused : (b : Break) (duration : ℕ) → b.earliest ≡ 0 → excused b duration ≡ false
never-excused b duration e = le-ltb duration b.earliest (omega (arith, e))

-- the empty run, home at 0: excused from earliest 1 on
pub empty-edge : (route_eval (rested 1 30 4) [] ≡ Some (record { totals = totals 0 0 0 0 0; start = None }))
    × (route_eval (rested 0 30 4) [] ≡ None)
    × (route_feasible (rested 0 30 4) [] ≡ false)
unfolding opened
empty-edge = (refl, refl, refl)
