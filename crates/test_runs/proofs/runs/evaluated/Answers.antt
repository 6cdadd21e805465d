-- `runs::evaluated` meets its contract. Assumes nothing.
use Rattle.improve_base.specs.Search.{search_f}
use Rattle.test_runs.specs.Runs.{run_words}
use Rattle.test_runs.proofs.runs.evaluated.Goals as goal

pub returns : goal.returns
unfolding run_words search_f
returns c = rw (c.route_feasible-feasible.ensures, c.effective_cost-cost.ensures) at c.evaluation_line.ensures
