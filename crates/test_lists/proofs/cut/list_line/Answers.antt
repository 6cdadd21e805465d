-- `cut::list_line` meets its contract. Assumes nothing.
use Rattle.test_runs.proofs.Along.{headed}
use Rattle.test_lists.proofs.cut.list_line.Goals as goal

pub returns : goal.returns
returns c = headed _ _ _ _ c.word-end.ensures c.calls.ensures
