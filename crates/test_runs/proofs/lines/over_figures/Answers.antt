-- `lines::over_figures` meets its contract. Assumes nothing.
use Rattle.test_runs.specs.Along.{follows}
use Rattle.test_runs.proofs.lines.over_figures.Goals as goal

pub returns : goal.returns
unfolding follows
returns c = rw (c.number.ensures, c.number-end-2.ensures, c.number-end.ensures)
