-- `recorded::calls` meets its contract. The loop's invariant: from here on the numbers that are left lead where all of them lead from the start. Assumes nothing.
use mathlib.Core.Path.{◌≡◌}
use lib.ListN.{drop}
use Rattle.test_runs.specs.Along.{follows}
use Rattle.test_runs.specs.Words.{numbers}
use Rattle.test_runs.proofs.recorded.calls.Given as goal

abbrev pub invariant-loop-call : goal.invariant-loop-call
invariant-loop-call l = follows l.recorded l.end (numbers (drop l.call-index l.run)) ≡ follows l.recorded l.at (numbers l.run)
