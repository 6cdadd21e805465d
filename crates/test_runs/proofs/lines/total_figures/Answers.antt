-- `lines::total_figures` meets its contract. Assumes nothing.
use Rattle.test_runs.specs.Along.{follows}
use Rattle.test_runs.proofs.lines.total_figures.Goals as goal

pub returns : goal.returns
unfolding follows
returns c =
    let cost = c in
    let lateness = cost in
    let duration = lateness in
    rw (c.load_figures.ensures, cost.figure-end-4.ensures, lateness.figure-end-3.ensures, duration.figure-end-2.ensures, duration.figure-end.ensures)
