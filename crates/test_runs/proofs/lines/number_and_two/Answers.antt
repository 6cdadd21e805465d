-- `lines::number_and_two` meets its contract. Assumes nothing.
use Rattle.test_runs.specs.Along.{follows}
use Rattle.test_runs.proofs.lines.number_and_two.Goals as goal

pub returns : goal.returns
unfolding follows
returns c = rw (c.figure.ensures, c.figure-end.ensures, c.number-end.ensures)
