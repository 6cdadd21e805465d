-- `runs::improved_text` meets its contract. Assumes nothing.
use Rattle.test_runs.proofs.Along.{joined}
use Rattle.test_runs.proofs.Turns.{walkable}
use Rattle.test_runs.proofs.runs.improved_text.Goals as goal

pub each_run-end-requires : goal.each_run-end-requires
each_run-end-requires c =
    let p = c.requires in
    record { all_len_bound = walkable p.run_list; drivable = p.all_open }

pub returns : goal.returns
returns c = joined _ _ _ _ c.each_run-end.ensures c.left_lines.ensures
