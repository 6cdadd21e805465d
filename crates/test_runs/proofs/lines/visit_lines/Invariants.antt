-- `lines::visit_lines` meets its contract. The loop's invariant: from here on the visits that are left lead where all of them lead from the start. Assumes nothing.
use mathlib.Core.Path.{◌≡◌}
use lib.ListN.{drop}
use Rattle.test_runs.specs.Along.{follows}
use Rattle.test_runs.specs.Words.{each, visit_line}
use Rattle.test_runs.proofs.lines.visit_lines.Given as goal

abbrev pub invariant-loop-visit : goal.invariant-loop-visit
invariant-loop-visit l = follows l.recorded l.end (each visit_line (drop l.visit-index l.visit-items)) ≡ follows l.recorded l.at (each visit_line l.visit-items)
