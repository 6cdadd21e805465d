-- `improve::reverse_sheet` meets its contract. Assumes nothing.
use lib.ListN.{take}
use Rattle.sheet_read.specs.Summary.{held_counts}
use Rattle.sheet_loaded.specs.Held.{Accepted}
use Rattle.sheet_loaded.proofs.Reading.{is-accepted}
use Rattle.sheet_loaded.proofs.Loading.{far-inside, far-counted, long-inside, long-counted}
use Rattle.bytes_improve.proofs.Improved.{reversed-on}
use Rattle.bytes_improve.proofs.improve.reverse_sheet.Goals as goal
use Rattle.bytes_improve.proofs.improve.reverse_sheet.Goals.{After-load-l}

-- the bytes are those of a sheet
accepted : (x : After-load-l) → Accepted x.args.bytes.now
accepted x = is-accepted x.args.bytes.now (held_counts x.args.found) x.requires

pub slice_bounds-distances-end : goal.slice_bounds-distances-end
slice_bounds-distances-end c =
    let q = accepted (goal.at.slice_bounds-distances-end c).After-load-l in
    far-inside (c.load-l.ensures q.0 q.1 q.2)

pub slice_bounds-two_opt_improve-end : goal.slice_bounds-two_opt_improve-end
slice_bounds-two_opt_improve-end c =
    let q = accepted (goal.at.slice_bounds-two_opt_improve-end c).After-load-l in
    far-counted (c.load-l.ensures q.0 q.1 q.2)

pub slice_bounds-times-end : goal.slice_bounds-times-end
slice_bounds-times-end c =
    let q = accepted (goal.at.slice_bounds-times-end c).After-load-l in
    long-inside (c.load-l.ensures q.0 q.1 q.2)

pub slice_bounds-two_opt_improve-end-2 : goal.slice_bounds-two_opt_improve-end-2
slice_bounds-two_opt_improve-end-2 c =
    let q = accepted (goal.at.slice_bounds-two_opt_improve-end-2 c).After-load-l in
    long-counted (c.load-l.ensures q.0 q.1 q.2)

pub returns : goal.returns
returns c s tour e =
    let a = c.args in
    let l = c.load-l.result in
    let distances = take l.distance_count c.load-l.new.distances in
    let times = take l.time_count c.load-l.new.times in
    let visited = take l.calls c.load-l.new.tour in
    let done = c.two_opt_improve in
    reversed-on s visited l.head l.customers distances times (c.load-l.ensures s tour e).in_memory a.run.now a.improved.now done.result done.new.improved done.ensures
