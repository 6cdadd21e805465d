-- `stored::plan_sheet` meets its contract. Assumes nothing.
use Rattle.sheet_read.specs.Summary.{held_counts}
use Rattle.sheet_loaded.proofs.Reading.{is-accepted}
use Rattle.sheet_loaded.proofs.Loading.{far-inside, far-counted, long-inside, long-counted, calls-inside, calls-counted, calls_are, held}
use Rattle.placements.specs.Chosen.{placement_of}
use Rattle.sheet_plan.specs.Plan.{plan_lists}
use Rattle.sheet_plan.proofs.PlanStored.{of-tour}
use Rattle.sheet_plan.proofs.stored.plan_sheet.Goals as goal

pub slice_bounds-tour-end : goal.slice_bounds-tour-end
slice_bounds-tour-end c =
    let x = c in
    let known = x in
    let s = known in
    let q = is-accepted s.args.bytes.now (held_counts s.args.found) s.requires.found in
    calls-inside (x.load-l.ensures q.0 q.1 q.2)

pub slice_bounds-plan_stored-end : goal.slice_bounds-plan_stored-end
slice_bounds-plan_stored-end c =
    let x = c in
    let known = x in
    let s = known in
    let q = is-accepted s.args.bytes.now (held_counts s.args.found) s.requires.found in
    calls-counted (x.load-l.ensures q.0 q.1 q.2)

pub slice_bounds-distances-end : goal.slice_bounds-distances-end
slice_bounds-distances-end c =
    let x = c in
    let known = x in
    let s = known in
    let q = is-accepted s.args.bytes.now (held_counts s.args.found) s.requires.found in
    far-inside (x.load-l.ensures q.0 q.1 q.2)

pub slice_bounds-plan_stored-end-2 : goal.slice_bounds-plan_stored-end-2
slice_bounds-plan_stored-end-2 c =
    let x = c in
    let known = x in
    let s = known in
    let q = is-accepted s.args.bytes.now (held_counts s.args.found) s.requires.found in
    far-counted (x.load-l.ensures q.0 q.1 q.2)

pub slice_bounds-times-end : goal.slice_bounds-times-end
slice_bounds-times-end c =
    let x = c in
    let known = x in
    let s = known in
    let q = is-accepted s.args.bytes.now (held_counts s.args.found) s.requires.found in
    long-inside (x.load-l.ensures q.0 q.1 q.2)

pub slice_bounds-plan_stored-end-3 : goal.slice_bounds-plan_stored-end-3
slice_bounds-plan_stored-end-3 c =
    let x = c in
    let known = x in
    let s = known in
    let q = is-accepted s.args.bytes.now (held_counts s.args.found) s.requires.found in
    long-counted (x.load-l.ensures q.0 q.1 q.2)

pub plan_stored-requires : goal.plan_stored-requires
plan_stored-requires c =
    let shared = c in
    let x = shared in
    let known = x in
    let s = known in
    let q = is-accepted s.args.bytes.now (held_counts s.args.found) s.requires.found in
    record { held = held (x.load-l.ensures q.0 q.1 q.2); roomy = s.requires.roomy }

pub returns : goal.returns
returns c s tour e =
    let left = c in
    let y = left in
    let shared = y in
    let l = shared in
    let known = l in
    let start = known in
    let a = start.args in
    let old = plan_lists a.served.now a.run_ends.now a.break_places.now a.break_starts.now a.dropped.now in
    let H = l.load-l.ensures s tour e in
    of-tour (placement_of a.placement) s {old = old} (calls_are H) (y.plan_stored.ensures s H.in_memory)
