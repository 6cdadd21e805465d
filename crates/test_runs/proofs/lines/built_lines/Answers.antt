-- `lines::built_lines` meets its contract. Assumes nothing.
use Rattle.test_runs.proofs.Along.{headed, joined, lasted}
use Rattle.test_runs.proofs.lines.built_lines.Goals as goal

pub returns : goal.returns
returns c =
    let rest = c in
    let total = rest in
    let route = total in
    let found = route in
    joined _ _ _ _ (joined _ _ _ _ found.visit_lines-end.ensures found.violation_lines-end.ensures)
    (headed _ _ _ _ route.word-end.ensures (lasted _ _ _ _ (joined _ _ _ _ total.total_figures-end.ensures rest.break_figures-end.ensures) c.word.ensures))
