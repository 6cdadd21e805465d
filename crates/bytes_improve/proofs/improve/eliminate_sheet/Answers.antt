-- `improve::eliminate_sheet` meets its contract. Assumes nothing.
use lib.ListN.{take}
use Rattle.sheet_read.specs.Summary.{held_counts}
use Rattle.sheet_loaded.specs.Held.{Accepted}
use Rattle.sheet_loaded.proofs.Reading.{is-accepted}
use Rattle.sheet_loaded.proofs.Loading.{far-inside, far-counted, long-inside, long-counted}
use Rattle.bytes_improve.specs.Improve.{runs}
use Rattle.bytes_improve.proofs.Improved.{eliminated-on}
use Rattle.bytes_improve.proofs.improve.eliminate_sheet.Goals as goal
use Rattle.bytes_improve.proofs.improve.eliminate_sheet.Goals.{After-load-l}

-- the bytes are those of a sheet
accepted : (x : After-load-l) → Accepted x.args.bytes.now
accepted x = is-accepted x.args.bytes.now (held_counts x.args.found) x.requires

pub slice_bounds-distances-end : goal.slice_bounds-distances-end
slice_bounds-distances-end c =
    let q = accepted (goal.at.slice_bounds-distances-end c).After-load-l in
    far-inside (c.load-l.ensures q.0 q.1 q.2)

pub slice_bounds-eliminate_routes-end : goal.slice_bounds-eliminate_routes-end
slice_bounds-eliminate_routes-end c =
    let q = accepted (goal.at.slice_bounds-eliminate_routes-end c).After-load-l in
    far-counted (c.load-l.ensures q.0 q.1 q.2)

pub slice_bounds-times-end : goal.slice_bounds-times-end
slice_bounds-times-end c =
    let q = accepted (goal.at.slice_bounds-times-end c).After-load-l in
    long-inside (c.load-l.ensures q.0 q.1 q.2)

pub slice_bounds-eliminate_routes-end-2 : goal.slice_bounds-eliminate_routes-end-2
slice_bounds-eliminate_routes-end-2 c =
    let q = accepted (goal.at.slice_bounds-eliminate_routes-end-2 c).After-load-l in
    long-counted (c.load-l.ensures q.0 q.1 q.2)

pub returns : goal.returns
returns c s tour e =
    let a = c.args in
    let l = c.load-l.result in
    let distances = take l.distance_count c.load-l.new.distances in
    let times = take l.time_count c.load-l.new.times in
    let visited = take l.calls c.load-l.new.tour in
    let done = c.eliminate_routes in
    eliminated-on s visited l.head l.customers distances times (c.load-l.ensures s tour e).in_memory (runs a.calls.now a.ends.now) (runs a.left_calls.now a.left_ends.now)
    done.result (runs done.new.left_calls done.new.left_ends) done.ensures
