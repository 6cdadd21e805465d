-- `lines::violation_lines` meets its contract. The loop's invariant: from here on the violations that are left lead where all of them lead from the start. Assumes nothing.
use mathlib.Core.Path.{◌≡◌}
use lib.ListN.{drop}
use Rattle.test_runs.specs.Along.{follows}
use Rattle.test_runs.specs.Words.{each, violation_line}
use Rattle.test_runs.proofs.lines.violation_lines.Given as goal

abbrev pub invariant-loop-violation : goal.invariant-loop-violation
invariant-loop-violation l = follows l.recorded l.end (each violation_line (drop l.violation-index l.violation-items)) ≡ follows l.recorded l.at (each violation_line l.violation-items)
