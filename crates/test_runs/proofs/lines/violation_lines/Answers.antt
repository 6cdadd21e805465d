-- `lines::violation_lines` meets its contract. The loop's invariant: from here on the violations that are left lead where all of them lead from the start. Assumes nothing.
use native.Mathlib.Omega.{arith}
use mathlib.Core.Path.{sym, ◌∙◌}
use lib.ListN.{take}
use Rattle.test_runs.specs.Words.{violation_line}
use Rattle.test_runs.proofs.Along.{each_more, first_done}
use Rattle.test_runs.proofs.lines.violation_lines.Goals as goal

pub loop-violation-preserved : goal.loop-violation-preserved
loop-violation-preserved c =
    let l = c.loop-violation in
    let a = c.args in
    rw c.violation_line-end.ensures
    (sym (each_more a.recorded.now violation_line (take c.fewer-n.result a.violations) l.end l.violation-index _ c.loop-violation-test.true) ∙ l.invariant)

pub returns : goal.returns
returns c =
    let l = c.loop-violation in
    let a = c.args in
    first_done a.recorded.now violation_line a.count a.violations a.at l.end l.violation-index c.fewer-n.result (omega arith) c.loop-violation-test.false l.invariant
