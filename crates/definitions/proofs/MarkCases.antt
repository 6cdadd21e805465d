-- Marks on small sheets: each verdict, and for neighbouring rules which comes first. Each holds by computation. Assumes nothing.
use Prim.Native.Nat.{ℕ}
use mathlib.Core.Path.{◌≡◌, refl}
use mathlib.Core.List.{List, [], ◌∷◌}
use Rattle.std.specs.Prelude.{None}
use Rattle.definitions.specs.Marker.{Verdict, other_calls, overload, break_too_late, window_missed, break_missing, too_far, too_long, dearer, cheaper, mark}
use Rattle.definitions.proofs.Bench.{opened, base, carrying, until, limited, rested, full, tour, run}

-- ---- the bench sheets

pub marked-best : mark base tour (run tour 0 ∷ []) ≡ Verdict.best
unfolding opened
marked-best = refl

pub marked-dearer : mark base tour (run (1 ∷ []) 0 ∷ run (2 ∷ []) 0 ∷ []) ≡ dearer 17
unfolding opened
marked-dearer = refl

-- a call changed, one left out, none at all, one too many
pub marked_other : (mark base tour (run (1 ∷ 1 ∷ []) 0 ∷ []) ≡ other_calls 2)
    × (mark base tour (run (1 ∷ []) 0 ∷ []) ≡ other_calls 2)
    × (mark base tour [] ≡ other_calls 1)
    × (mark base tour (run tour 0 ∷ run (1 ∷ []) 0 ∷ []) ≡ other_calls 3)
unfolding opened
marked_other = (refl, refl, refl, refl)

-- case c: no runs, and nothing served
pub marked-nothing : mark (carrying 1) tour [] ≡ Verdict.best
unfolding opened
marked-nothing = refl

-- case g: the one call that is served
pub marked-served : mark (until 9 None) tour (run (2 ∷ []) 0 ∷ []) ≡ Verdict.best
unfolding opened
marked-served = refl

-- case g's dropped call besides
pub marked-dropped : mark (until 9 None) tour (run tour 0 ∷ []) ≡ other_calls 1
unfolding opened
marked-dropped = refl

-- capacity 3, load 4
pub marked-load : mark (carrying 3) tour (run tour 0 ∷ []) ≡ overload 1 4 3
unfolding opened
marked-load = refl

-- tour 2 1, customer 1 due 14: at the second call of run 1 readiness is 17
pub marked-window : mark (until 14 None) (2 ∷ 1 ∷ []) (run (2 ∷ 1 ∷ []) 0 ∷ []) ≡ window_missed 1 2 1 17 14
unfolding opened
marked-window = refl

-- at the second call the break starts at 15, past 10
pub marked-break : mark (rested 5 10 4) tour (run tour 2 ∷ []) ≡ break_too_late 1 2 2 15 10
unfolding opened
marked-break = refl

-- no break, and home at 27, after 20
pub marked-missing : mark (rested 20 30 4) tour (run tour 0 ∷ []) ≡ break_missing 1 27 20
unfolding opened
marked-missing = refl

pub marked-far : mark (limited 26) tour (run tour 0 ∷ []) ≡ too_far 1 27 26
unfolding opened
marked-far = refl

-- ---- the sheet with everything: each tour is served whole, the runs are those given

-- the mark of one run, for the tour of its own calls
abbrev alone : List ℕ → ℕ → Verdict
alone calls place = mark full calls (run calls place ∷ [])

-- the break at the second call at 24: 3 + 27
pub full-best : alone tour 2 ≡ Verdict.best
unfolding opened
full-best = refl

-- two runs instead: 17 more to drive, and another fixed cost of 3
pub full-dearer : mark full tour (run (1 ∷ []) 0 ∷ run (2 ∷ []) 1 ∷ []) ≡ dearer 20
unfolding opened
full-dearer = refl

-- the planner breaks at the first call, and pays 5 for the call that this makes late by 1
pub full-cheaper : alone (5 ∷ 2 ∷ []) 2 ≡ cheaper 5
unfolding opened
full-cheaper = refl

-- home at 24 without the break, so it is needed
pub full-at-earliest : (alone (2 ∷ []) 0 ≡ break_missing 1 24 24) × (alone (2 ∷ []) 1 ≡ Verdict.best)
unfolding opened
full-at-earliest = (refl, refl)

-- load 5
pub full-load : alone (2 ∷ 4 ∷ 5 ∷ 3 ∷ []) 1 ≡ overload 1 5 4
unfolding opened
full-load = refl

-- there at 42, past 30
pub full-break : alone (2 ∷ 4 ∷ []) 2 ≡ break_too_late 1 2 4 42 30
unfolding opened
full-break = refl

-- there at 10, before due; but the break is here, and then it is 28
pub full-window : alone (1 ∷ []) 1 ≡ window_missed 1 1 1 28 14
unfolding opened
full-window = refl

pub full-missing : alone (4 ∷ []) 0 ≡ break_missing 1 43 24
unfolding opened
full-missing = refl

-- home at 73
pub full-far : alone (4 ∷ 2 ∷ []) 1 ≡ too_far 1 62 60
unfolding opened
full-far = refl

-- distance 57
pub full-long : alone (3 ∷ 2 ∷ []) 1 ≡ too_long 1 81 80
unfolding opened
full-long = refl

-- ---- which of two comes first

-- load 8 in the run given
pub calls-before-load : mark full (2 ∷ 1 ∷ 3 ∷ 4 ∷ []) (run (2 ∷ 2 ∷ 2 ∷ 2 ∷ []) 0 ∷ []) ≡ other_calls 2
unfolding opened
calls-before-load = refl

-- customer 1 is reached at 17, after 14
pub load-before-walk : alone (2 ∷ 1 ∷ 3 ∷ 4 ∷ []) 0 ≡ overload 1 5 4
unfolding opened
load-before-walk = refl

-- customer 3 is reached at 32, after latest 30 and after due 31
pub break-before-window : alone (2 ∷ 3 ∷ []) 2 ≡ break_too_late 1 2 3 32 30
unfolding opened
break-before-window = refl

-- the window of the second call is missed, and at the third the break would start too late
pub earlier-call-first : alone (2 ∷ 1 ∷ 3 ∷ []) 3 ≡ window_missed 1 2 1 17 14
unfolding opened
earlier-call-first = refl

-- home at 28 without the break
pub walk-before-missing : alone (2 ∷ 1 ∷ []) 0 ≡ window_missed 1 2 1 17 14
unfolding opened
walk-before-missing = refl

-- distance 62
pub missing-before-distance : alone (2 ∷ 4 ∷ []) 0 ≡ break_missing 1 65 24
unfolding opened
missing-before-distance = refl

-- home at 81
pub distance-before-duration : alone (2 ∷ 4 ∷ []) 1 ≡ too_far 1 62 60
unfolding opened
distance-before-duration = refl

-- the second run misses a window
pub first-run-first : mark full (3 ∷ 2 ∷ 1 ∷ []) (run (3 ∷ 2 ∷ []) 1 ∷ run (1 ∷ []) 1 ∷ []) ≡ too_long 1 81 80
unfolding opened
first-run-first = refl

-- a fault in the second run
pub second_run : (mark full (1 ∷ 3 ∷ 2 ∷ []) (run (1 ∷ []) 0 ∷ run (3 ∷ 2 ∷ []) 1 ∷ []) ≡ too_long 2 81 80)
    × (mark full (2 ∷ 1 ∷ []) (run (2 ∷ []) 1 ∷ run (1 ∷ []) 1 ∷ []) ≡ window_missed 2 1 1 28 14)
unfolding opened
second_run = (refl, refl)
