-- The timelines of runs in words, by the code's floats. Definitions only.
use Rattle.std.specs.Prelude.{ℕ, suc, ◌≤◌, List, [], ◌∷◌, ◌++◌, length}
use Rattle.definitions.specs.Load.{Load}
use Rattle.definitions.specs.Run.{Run}
use Rattle.evaluation.specs.Records.{Tables, LimitsF}
use Rattle.timeline.specs.Timing.{timeline_f}
use Rattle.times_lines.specs.Told.{run_text_f}

-- its break is at a call of its own, or nowhere
abbrev pub Own : Run → Type 0
Own r = r.place ≤ length r.calls

-- these calls, with the break at this place
abbrev pub run_of : List ℕ → ℕ → Run
run_of calls place = record { calls = calls; place = place }

unfoldable pub run_times_f : Tables → Load → LimitsF → ℕ → Run → List ℕ
run_times_f t capacity limits n r =
    let x = timeline_f t capacity limits r.place r.calls in
    run_text_f t.customers limits.rest r.place n x.route x.begins

-- the runs from number n on
abbrev pub times_f : Tables → Load → LimitsF → ℕ → List Run → List ℕ
times_f t capacity limits n [] = []
times_f t capacity limits n (r ∷ rs) = run_times_f t capacity limits n r ++ times_f t capacity limits (suc n) rs
