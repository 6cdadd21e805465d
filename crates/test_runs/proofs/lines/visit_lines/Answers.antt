-- `lines::visit_lines` meets its contract. The loop's invariant: from here on the visits that are left lead where all of them lead from the start. Assumes nothing.
use native.Mathlib.Omega.{arith}
use mathlib.Core.Path.{sym, ◌∙◌}
use lib.ListN.{take}
use Rattle.test_runs.specs.Words.{visit_line}
use Rattle.test_runs.proofs.Along.{each_more, first_done}
use Rattle.test_runs.proofs.lines.visit_lines.Goals as goal

pub loop-visit-preserved : goal.loop-visit-preserved
loop-visit-preserved c =
    let l = c.loop-visit in
    let a = c.args in
    rw c.visit_line-end.ensures
    (sym (each_more a.recorded.now visit_line (take c.fewer-n.result a.visits) l.end l.visit-index _ c.loop-visit-test.true) ∙ l.invariant)

pub returns : goal.returns
returns c =
    let l = c.loop-visit in
    let a = c.args in
    first_done a.recorded.now visit_line a.count a.visits a.at l.end l.visit-index c.fewer-n.result (omega arith) c.loop-visit-test.false l.invariant
