-- `mark::mark_sheet` meets its contract. Assumes nothing.
use lib.ListN.{take}
use Rattle.sheet_read.specs.Summary.{held_counts}
use Rattle.sheet_loaded.specs.Held.{Accepted}
use Rattle.sheet_loaded.proofs.Reading.{is-accepted}
use Rattle.sheet_loaded.proofs.Loading.{far-inside, far-counted, long-inside, long-counted, calls-inside, calls-counted, calls_are}
use Rattle.bytes_mark.specs.Mark.{given_runs}
use Rattle.bytes_mark.proofs.Marked.{marked-on}
use Rattle.bytes_mark.proofs.mark.mark_sheet.Goals as goal
use Rattle.bytes_mark.proofs.mark.mark_sheet.Goals.{After-load-l}

-- the bytes are those of a sheet
accepted : (x : After-load-l) → Accepted x.args.bytes.now
accepted x = is-accepted x.args.bytes.now (held_counts x.args.found) x.requires

pub slice_bounds-distances-end : goal.slice_bounds-distances-end
slice_bounds-distances-end c =
    let q = accepted (goal.at.slice_bounds-distances-end c).After-load-l in
    far-inside (c.load-l.ensures q.0 q.1 q.2)

pub slice_bounds-mark-end : goal.slice_bounds-mark-end
slice_bounds-mark-end c =
    let q = accepted (goal.at.slice_bounds-mark-end c).After-load-l in
    far-counted (c.load-l.ensures q.0 q.1 q.2)

pub slice_bounds-times-end : goal.slice_bounds-times-end
slice_bounds-times-end c =
    let q = accepted (goal.at.slice_bounds-times-end c).After-load-l in
    long-inside (c.load-l.ensures q.0 q.1 q.2)

pub slice_bounds-mark-end-2 : goal.slice_bounds-mark-end-2
slice_bounds-mark-end-2 c =
    let q = accepted (goal.at.slice_bounds-mark-end-2 c).After-load-l in
    long-counted (c.load-l.ensures q.0 q.1 q.2)

pub slice_bounds-tour-end : goal.slice_bounds-tour-end
slice_bounds-tour-end c =
    let q = accepted (goal.at.slice_bounds-tour-end c).After-load-l in
    calls-inside (c.load-l.ensures q.0 q.1 q.2)

pub slice_bounds-mark-end-3 : goal.slice_bounds-mark-end-3
slice_bounds-mark-end-3 c =
    let q = accepted (goal.at.slice_bounds-mark-end-3 c).After-load-l in
    calls-counted (c.load-l.ensures q.0 q.1 q.2)

pub returns : goal.returns
returns c s tour e =
    let a = c.args in
    let given = given_runs a.calls.now a.ends.now a.breaks.now in
    let l = c.load-l.result in
    let H = c.load-l.ensures s tour e in
    let M = H.in_memory in
    let visited = take l.calls c.load-l.new.tour in
    let distances = take l.distance_count c.load-l.new.distances in
    let times = take l.time_count c.load-l.new.times in
    marked-on a.placement s visited l.head l.customers distances times M given tour (calls_are H) c.mark.result c.mark.ensures
