-- `lines::violation_line` meets its contract. Assumes nothing.
use Rattle.test_runs.proofs.Along.{headed, lasted}
use Rattle.test_runs.proofs.lines.violation_line.Goals as goal

pub returns : goal.returns
returns c =
    let said = c in
    headed _ _ _ _ said.word-end.ensures (lasted _ _ _ _ said.violation_figures-end.ensures c.word.ensures)
