-- `work::on_sheet` meets its contract. Assumes nothing.
use Rattle.sheet_read.specs.Summary.{held_counts}
use Rattle.sheet_loaded.specs.Held.{Accepted}
use Rattle.sheet_loaded.proofs.Reading.{is-accepted}
use Rattle.sheet_loaded.proofs.Loading.{far-inside, far-counted, long-inside, long-counted, calls-inside, calls-counted}
use Rattle.bench_timing.proofs.Sheets.{callable, rounds-on}
use Rattle.bench_timing.proofs.work.on_sheet.Goals as goal
use Rattle.bench_timing.proofs.work.on_sheet.Goals.{After-load-held}

-- the bytes are those of a sheet
accepted : (x : After-load-held) → Accepted x.args.bytes.now
accepted x = is-accepted x.args.bytes.now (held_counts x.args.found) x.requires

pub slice_bounds-tour-end : goal.slice_bounds-tour-end
slice_bounds-tour-end c =
    let q = accepted (goal.at.slice_bounds-tour-end c).After-load-held in
    let H = c.load-held.ensures q.0 q.1 q.2 in
    calls-inside H

pub slice_bounds-rounds-end : goal.slice_bounds-rounds-end
slice_bounds-rounds-end c =
    let q = accepted (goal.at.slice_bounds-rounds-end c).After-load-held in
    let H = c.load-held.ensures q.0 q.1 q.2 in
    calls-counted H

pub slice_bounds-distances-end : goal.slice_bounds-distances-end
slice_bounds-distances-end c =
    let q = accepted (goal.at.slice_bounds-distances-end c).After-load-held in
    let H = c.load-held.ensures q.0 q.1 q.2 in
    far-inside H

pub slice_bounds-rounds-end-2 : goal.slice_bounds-rounds-end-2
slice_bounds-rounds-end-2 c =
    let q = accepted (goal.at.slice_bounds-rounds-end-2 c).After-load-held in
    let H = c.load-held.ensures q.0 q.1 q.2 in
    far-counted H

pub slice_bounds-times-end : goal.slice_bounds-times-end
slice_bounds-times-end c =
    let q = accepted (goal.at.slice_bounds-times-end c).After-load-held in
    let H = c.load-held.ensures q.0 q.1 q.2 in
    long-inside H

pub slice_bounds-rounds-end-3 : goal.slice_bounds-rounds-end-3
slice_bounds-rounds-end-3 c =
    let q = accepted (goal.at.slice_bounds-rounds-end-3 c).After-load-held in
    let H = c.load-held.ensures q.0 q.1 q.2 in
    long-counted H

pub rounds-requires : goal.rounds-requires
rounds-requires c =
    let q = accepted (goal.at.rounds-requires c).After-load-held in
    let H = c.load-held.ensures q.0 q.1 q.2 in
    callable H

pub returns : goal.returns
returns c =
    let q = accepted (goal.at.returns c).After-load-held in
    let H = c.load-held.ensures q.0 q.1 q.2 in
    let a = c.args in
    rounds-on H a.bytes.now q.2 c.rounds.result a.work a.n c.rounds.ensures
