-- `evaluations::evaluation_line` meets its contract. Assumes nothing.
use Rattle.test_runs.specs.Along.{follows}
use Rattle.test_runs.proofs.evaluations.evaluation_line.Goals as goal

pub returns : goal.returns
unfolding follows
returns c = rw (c.word.ensures, c.cost_figure-end.ensures, c.verdict-end.ensures)
