use Rattle.call_shared.proofs.Padded.{padded-gathered}
use Rattle.placements.specs.Chosen.{placement_of}
use Rattle.planner.specs.Calls.{lent_sheet}
use Rattle.planner.specs.Cutting.{cut_output}
use Rattle.planner.proofs.CutKept.{timed, kept}
use Rattle.planner.proofs.cutting.split_tw.Goals as goal

pub returns : goal.returns
returns c =
    let a = c.args in
    let cs = a.customers.now in
    let said = c.split_tw.ensures in
    let answer-is = said.answer cs (rw (c.count-n.ensures, c.gathered-all.ensures) (padded-gathered cs)) in
    let served-left-is = said.served-left cs (rw (c.count-n.ensures, c.gathered-all.ensures) (padded-gathered cs)) in
    let ends-left-is = said.ends-left cs (rw (c.count-n.ensures, c.gathered-all.ensures) (padded-gathered cs)) in
    let dropped-left-is = said.dropped-left cs (rw (c.count-n.ensures, c.gathered-all.ensures) (padded-gathered cs)) in
    kept (timed (placement_of a.placement)) (lent_sheet a.head cs a.distances.now a.times.now) a.tour.now (cut_output a.served.now a.run_ends.now a.dropped.now) answer-is
    (λ i. cut_output (served-left-is i) (ends-left-is i) (dropped-left-is i))
