-- `runs::run_text` meets its contract. Assumes nothing.
use native.Mathlib.Omega.{arith}
use mathlib.Core.Path.{ap}
use mathlib.Core.List.{map}
use Rattle.models.specs.Load.{space_of}
use Rattle.models.specs.Records.{customer_of, rest_of}
use Rattle.evaluation.specs.Records.{lent, limits_of}
use Rattle.timeline.specs.Timing.{TimelineF}
use Rattle.times_lines.specs.Told.{run_text_f}
use Rattle.times_lines.proofs.Templates.{put_as}
use Rattle.times_text.specs.Runs.{run_times_f}
use Rattle.times_text.proofs.Counts.{counts}
use Rattle.times_text.proofs.runs.run_text.Goals as goal

pub run_lines-requires : goal.run_lines-requires
run_lines-requires c =
    let told = c in
    let past-S = told in
    let S = past-S in
    let a = S.args in
    let T = told.timeline_of-told.ensures in
    let few = counts (lent a.customers a.distances.now a.times.now a.head.places) (space_of a.head.capacity) (limits_of a.head.limits) a.place a.route.now in
    record { count_bound = (T.count_most, T.found-most); found_in_bounds = omega (arith, T.count-is, T.found-is, few.0, few.1, S.requires.route_in_bounds) }

pub returns : goal.returns
unfolding run_times_f
returns c =
    let l = c in
    let told = l in
    let past-S = told in
    let S = past-S in
    let a = S.args in
    let T = told.timeline_of-told.ensures in
    let few = counts (lent a.customers a.distances.now a.times.now a.head.places) (space_of a.head.capacity) (limits_of a.head.limits) a.place a.route.now in
    let same = ap (λ (y : TimelineF). run_text_f (map customer_of a.customers) (rest_of a.head.limits.rest) a.place a.n y.route y.begins) T.timeline-is in
    record { text = put_as same l.run_lines.ensures.text; short = omega (arith, T.count-is, T.found-is, few.0, few.1, l.run_lines.ensures.short) }
