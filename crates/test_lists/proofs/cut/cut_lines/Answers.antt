-- `cut::cut_lines` meets its contract. Assumes nothing.
use Rattle.test_runs.proofs.Along.{joined}
use Rattle.test_lists.proofs.cut.cut_lines.Goals as goal

pub returns : goal.returns
returns c =
    joined _ _ _ _ (joined _ _ _ _ (joined _ _ _ _ c.list_line-end.ensures c.list_line-end-2.ensures) c.list_line-end-3.ensures) c.total_line.ensures
