-- The break where the least is paid for lateness, beside the clock's. Each holds by computation. Assumes nothing.
use Prim.Native.Nat.{ℕ}
use mathlib.Core.Path.{◌≡◌, refl}
use mathlib.Core.List.{List, [], ◌∷◌}
use Rattle.std.specs.Prelude.{Option, None, Some}
use Rattle.definitions.specs.Sheet.{Sheet}
use Rattle.definitions.specs.Placement.{Placement, by_clock, by_pay}
use Rattle.definitions.specs.Evaluation.{eval_by}
use Rattle.definitions.specs.Drop.{split_by}
use Rattle.definitions.specs.Marker.{Verdict, dearer, cheaper, mark_by}
use Rattle.definitions.proofs.Bench.{opened, pause, window, person, sheet, legs, base, rested, late, tour, together, totals, run}

-- the run 1 2 as one run at this cost: its lateness and pay, its break place, the break's start, and when it is home
abbrev Plans : Placement → Sheet → (cost lateness pay place home : ℕ) → Option ℕ → Type 0
Plans p s cost lateness pay place home start =
    (split_by p s tour ≡ together cost 27 place) × (eval_by p s tour ≡ Some (record { totals = totals 27 home lateness pay place; start = start }))

-- the mark of the run 1 2 with its break at this place
abbrev marked : Placement → Sheet → ℕ → Verdict
marked p s place = mark_by p s tour (run tour place ∷ [])

-- case q: the clock breaks at the first call, where that is soonest, and pays 5; at the second nothing is paid
abbrev q : Sheet
q = late 12 13 5

pub q-by-clock : Plans by_clock q 32 1 5 1 31 (Some 10)
unfolding opened
q-by-clock = (refl, refl)

pub q-by-pay : Plans by_pay q 27 0 0 2 33 (Some 17)
unfolding opened
q-by-pay = (refl, refl)

-- each against each
pub q-marks : (marked by_clock q 1 ≡ Verdict.best) × (marked by_clock q 2 ≡ cheaper 5) × (marked by_pay q 1 ≡ dearer 5) × (marked by_pay q 2 ≡ Verdict.best)
unfolding opened
q-marks = (refl, refl, refl, refl)

-- nothing is paid at either call: at the second it is home at 36, at the first at 41
pub earlier-return : Plans by_pay (rested 20 30 4) 27 0 0 2 36 (Some 20)
unfolding opened
earlier-return = (refl, refl)

-- nothing is paid, and home is at 31, at either call
pub earlier-call : Plans by_pay (rested 0 30 4) 27 0 0 1 31 (Some 10)
unfolding opened
earlier-call = (refl, refl)

-- q with a duration limit
abbrev hurried : ℕ → Sheet
hurried limit = sheet 4 legs None (Some limit) (pause 0 30 4) (person (window 12 13) (Some 5))

-- the place where nothing is paid is home at 33, after the limit
pub limit-broken : Plans by_pay (hurried 32) 32 1 5 1 31 (Some 10)
unfolding opened
limit-broken = (refl, refl)

pub limit-kept : Plans by_pay (hurried 33) 27 0 0 2 33 (Some 17)
unfolding opened
limit-kept = (refl, refl)

-- excused at 27, and late by 1 at 3 each whether there is a break at the second call or none
pub excused-at-pay : Plans by_pay (sheet 4 legs None None (pause 40 50 4) (person (window 0 9) (Some 3))) 30 1 3 0 27 None
unfolding opened
excused-at-pay = (refl, refl)

-- a sheet without a break
pub no-break : Plans by_pay base 27 0 0 0 27 None
unfolding opened
no-break = (refl, refl)
