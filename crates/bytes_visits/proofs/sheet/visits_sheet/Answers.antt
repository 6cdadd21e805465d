-- `sheet::visits_sheet` meets its contract. Assumes nothing.
use lib.ListN.{take}
use Rattle.sheet_read.specs.Summary.{held_counts}
use Rattle.sheet_loaded.specs.Held.{Accepted}
use Rattle.sheet_loaded.proofs.Reading.{is-accepted}
use Rattle.sheet_loaded.proofs.Loading.{far-inside, far-counted, long-inside, long-counted}
use Rattle.bytes_visits.specs.Told.{lists}
use Rattle.bytes_visits.proofs.OnSheet.{told-on}
use Rattle.bytes_visits.proofs.sheet.visits_sheet.Goals as goal
use Rattle.bytes_visits.proofs.sheet.visits_sheet.Goals.{After-load-l}

-- the bytes are those of a sheet
accepted : (x : After-load-l) → Accepted x.args.bytes.now
accepted x = is-accepted x.args.bytes.now (held_counts x.args.found) x.requires.found

pub slice_bounds-distances-end : goal.slice_bounds-distances-end
slice_bounds-distances-end c =
    let q = accepted (goal.at.slice_bounds-distances-end c).After-load-l in
    far-inside (c.load-l.ensures q.0 q.1 q.2)

pub slice_bounds-time_run-end : goal.slice_bounds-time_run-end
slice_bounds-time_run-end c =
    let q = accepted (goal.at.slice_bounds-time_run-end c).After-load-l in
    far-counted (c.load-l.ensures q.0 q.1 q.2)

pub slice_bounds-times-end : goal.slice_bounds-times-end
slice_bounds-times-end c =
    let q = accepted (goal.at.slice_bounds-times-end c).After-load-l in
    long-inside (c.load-l.ensures q.0 q.1 q.2)

pub slice_bounds-time_run-end-2 : goal.slice_bounds-time_run-end-2
slice_bounds-time_run-end-2 c =
    let q = accepted (goal.at.slice_bounds-time_run-end-2 c).After-load-l in
    long-counted (c.load-l.ensures q.0 q.1 q.2)

pub returns : goal.returns
returns c s tour e =
    let done = c.time_run in
    let a = c.args in
    let l = c.load-l.result in
    let distances = take l.distance_count c.load-l.new.distances in
    let times = take l.time_count c.load-l.new.times in
    let visited = take l.calls c.load-l.new.tour in
    let old = lists a.hours.now a.loads.now a.numbers.now a.figures.now in
    told-on s visited l.head l.customers distances times (c.load-l.ensures s tour e).in_memory a.run.now a.place old done.result _ done.ensures
