-- Run evaluation on small sheets: which table a figure comes from, the clock's ties, lateness pay, limits, load, and the empty run. Each holds by computation. Assumes nothing.
use Prim.Native.Nat.{ℕ}
use mathlib.Core.Path.{◌≡◌, refl}
use mathlib.Core.Bool.{true, false}
use mathlib.Core.List.{List, [], ◌∷◌}
use Rattle.std.specs.Prelude.{Option, None, Some}
use Rattle.definitions.specs.Sheet.{Sheet, Break}
use Rattle.definitions.specs.Run.{Totals}
use Rattle.definitions.specs.Evaluation.{route_eval, route_feasible, effective_cost}
use Rattle.definitions.proofs.Bench.{opened, pause, anyone, sheet, legs, carrying, until, limited, late, timed, full, tour, totals}

-- the run is allowed, comes to these totals, and its break starts then
abbrev Evaluates : Sheet → List ℕ → Totals → Option ℕ → Type 0
Evaluates s calls t start = route_eval s calls ≡ Some (record { totals = t; start = start })

-- distance by the distances, duration by the times
pub by-times : Evaluates timed tour (totals 27 7 0 0 0) None
unfolding opened
by-times = refl

-- ---- the clock's tie: with the break at the first call and at the second the bus is done with the second at 19 alike

-- Late by 4 at the first call, at no cost: the place that was there first is kept, for lateness plays no part
pub tie-by-pay : Evaluates (late 0 10 0) tour (totals 27 31 4 0 1) (Some 10)
unfolding opened
tie-by-pay = refl

-- at 5 each it would be 20 with the break at the first call
pub tie-at-less-pay : Evaluates (late 0 10 5) tour (totals 27 31 0 0 2) (Some 15)
unfolding opened
tie-at-less-pay = refl

-- ---- effective cost

-- case h: 27, and late by 1 at 3 each
pub cost-with-pay : effective_cost (until 9 (Some 3)) tour ≡ Some 30
unfolding opened
cost-with-pay = refl

-- a hard window missed; one kept
pub cost-late : (effective_cost (until 9 None) tour ≡ None) × (effective_cost (until 10 None) tour ≡ Some 27)
unfolding opened
cost-late = (refl, refl)

-- a limit exceeded; one kept
pub cost-too-far : (effective_cost (limited 26) tour ≡ None) × (effective_cost (limited 27) tour ≡ Some 27)
unfolding opened
cost-too-far = (refl, refl)

abbrev hurried : ℕ → Sheet
hurried limit = sheet 4 legs None (Some limit) None anyone

pub cost-too-long : (effective_cost (hurried 26) tour ≡ None) × (effective_cost (hurried 27) tour ≡ Some 27)
unfolding opened
cost-too-long = (refl, refl)

-- the fixed cost of 3 has no part in it
pub cost-not-fixed : effective_cost full tour ≡ Some 27
unfolding opened
cost-not-fixed = refl

-- ---- load is not looked at: capacity 1

pub any-load : Evaluates (carrying 1) tour (totals 27 27 0 0 0) None × (route_feasible (carrying 1) tour ≡ true)
unfolding opened
any-load = (refl, refl)

-- ---- the empty run: here the leg from depot to depot is 7

abbrev standing : Option Break → Sheet
standing rest = sheet 4 (7 ∷ 10 ∷ 12 ∷ 10 ∷ 0 ∷ 5 ∷ 12 ∷ 5 ∷ 0 ∷ []) None None rest anyone

pub empty-run : Evaluates (standing None) [] (totals 7 7 0 0 0) None
unfolding opened
empty-run = refl

-- home at 7: at the earliest start of a break, which no call could take
pub empty-needs-break : (route_eval (standing (pause 7 30 4)) [] ≡ None) × (route_feasible (standing (pause 7 30 4)) [] ≡ false)
unfolding opened
empty-needs-break = (refl, refl)

pub empty-excused : Evaluates (standing (pause 8 30 4)) [] (totals 7 7 0 0 0) None
unfolding opened
empty-excused = refl

-- its distance by the distances, its duration by the times
pub empty-by-times : Evaluates timed [] (totals 0 8 0 0 0) None
unfolding opened
empty-by-times = refl
