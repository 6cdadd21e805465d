-- `runs::visited` meets its contract. Assumes nothing.
-- the entry, before the four lent slices, the head and the records
use Rattle.improve_base.specs.Search.{search_f}
use Rattle.test_runs.specs.Runs.{run_words}
use mathlib.Core.Path.{ap, ◌∙◌}
use Rattle.visits.specs.Building.{RouteF}
use Rattle.test_runs.specs.Along.{follows}
use Rattle.test_runs.specs.Words.{built_lines}
use Rattle.test_runs.proofs.runs.visited.Goals as goal

pub returns : goal.returns
unfolding run_words search_f
returns c =
    let x = c in
    let a = x.args in
    c.built_lines.ensures ∙ ap (λ (r : RouteF). follows a.recorded.now a.at (built_lines r)) x.build_route-built.ensures.built-is
