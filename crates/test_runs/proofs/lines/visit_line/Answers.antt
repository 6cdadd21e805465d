-- `lines::visit_line` meets its contract. Assumes nothing.
use Rattle.test_runs.specs.Along.{follows}
use Rattle.test_runs.proofs.lines.visit_line.Goals as goal

pub returns : goal.returns
unfolding follows
returns c = rw (c.word.ensures, c.load_figures-end.ensures, c.number_and_two-end.ensures, c.word-end.ensures)
