-- `cut::total_line` meets its contract. Assumes nothing.
use Rattle.test_runs.specs.Along.{follows}
use Rattle.test_lists.proofs.cut.total_line.Goals as goal

pub returns : goal.returns
unfolding follows
returns c = rw (c.word.ensures, c.figure-end-2.ensures, c.figure-end.ensures, c.word-end.ensures)
