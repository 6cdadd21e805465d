-- `alike::accepted_alike` meets its contract. Assumes nothing.
use Rattle.sheet_read.specs.Summary.{held_counts}
use Rattle.sheet_loaded.specs.Held.{Accepted}
use Rattle.sheet_loaded.proofs.Reading.{is-accepted}
use Rattle.sheet_loaded.proofs.Loading.{far-inside, far-counted, long-inside, long-counted, calls-inside, calls-counted}
use Rattle.test_lists.proofs.Held.{cuttable, alike-on}
use Rattle.test_lists.proofs.alike.accepted_alike.Goals as goal
use Rattle.test_lists.proofs.alike.accepted_alike.Goals.{After-load-held}

-- the bytes are those of a sheet
accepted : (x : After-load-held) → Accepted x.args.sheet.now
accepted x = is-accepted x.args.sheet.now (held_counts x.args.found) x.requires.found

pub slice_bounds-tour-end : goal.slice_bounds-tour-end
slice_bounds-tour-end c =
    let x = (goal.at.slice_bounds-tour-end c).After-load-held in
    let q = accepted x in
    calls-inside (x.load-held.ensures q.0 q.1 q.2)

pub slice_bounds-list_alike-end : goal.slice_bounds-list_alike-end
slice_bounds-list_alike-end c =
    let x = (goal.at.slice_bounds-list_alike-end c).After-load-held in
    let q = accepted x in
    calls-counted (x.load-held.ensures q.0 q.1 q.2)

pub slice_bounds-distances-end : goal.slice_bounds-distances-end
slice_bounds-distances-end c =
    let x = (goal.at.slice_bounds-distances-end c).After-load-held in
    let q = accepted x in
    far-inside (x.load-held.ensures q.0 q.1 q.2)

pub slice_bounds-list_alike-end-2 : goal.slice_bounds-list_alike-end-2
slice_bounds-list_alike-end-2 c =
    let x = (goal.at.slice_bounds-list_alike-end-2 c).After-load-held in
    let q = accepted x in
    far-counted (x.load-held.ensures q.0 q.1 q.2)

pub slice_bounds-times-end : goal.slice_bounds-times-end
slice_bounds-times-end c =
    let x = (goal.at.slice_bounds-times-end c).After-load-held in
    let q = accepted x in
    long-inside (x.load-held.ensures q.0 q.1 q.2)

pub slice_bounds-list_alike-end-3 : goal.slice_bounds-list_alike-end-3
slice_bounds-list_alike-end-3 c =
    let x = (goal.at.slice_bounds-list_alike-end-3 c).After-load-held in
    let q = accepted x in
    long-counted (x.load-held.ensures q.0 q.1 q.2)

pub list_alike-requires : goal.list_alike-requires
list_alike-requires c =
    let x = (goal.at.list_alike-requires c).After-load-held in
    let q = accepted x in
    record { fits = x.requires.fits; tour_len_bound = cuttable (x.load-held.ensures q.0 q.1 q.2) }

pub returns : goal.returns
returns c =
    let x = (goal.at.returns c).After-load-held in
    let q = accepted x in
    let a = x.args in
    alike-on (x.load-held.ensures q.0 q.1 q.2) a.sheet.now q.2 a.calls.now a.ends.now a.recorded.now c.list_alike.result c.list_alike.ensures
