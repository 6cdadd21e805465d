use Rattle.call_shared.proofs.Padded.{padded-gathered}
use mathlib.Core.Path.{◌∙◌}
use Rattle.definitions.specs.Bytes.{numbers_of}
use Rattle.planner.specs.Calls.{lent_sheet}
use Rattle.planner.specs.Visiting.{route_output}
use Rattle.call_runs.proofs.RouteAnswers.{listed-left}
use Rattle.planner.proofs.RouteKept.{kept}
use Rattle.planner.proofs.visiting.build_route.Goals as goal

pub returns : goal.returns
returns c =
    let a = c.args in
    let cs = a.customers.now in
    let l = c.build_route-listed.result in
    let left = c.write.ensures in
    let x = c.build_route-listed.ensures cs (rw (c.count-n.ensures, c.gathered-all.ensures) (padded-gathered cs)) in
    let visits-left = listed-left l.count l.visits _ a.visits.now _ x.visits-are x.visits-fit left.visits-left in
    let violations-left = listed-left l.found l.violations _ a.violations.now _ x.violations-are x.violations-fit left.violations-left in
    kept (lent_sheet a.head cs a.distances.now a.times.now) (numbers_of a.run.now) (route_output a.visits.now a.violations.now)
    (left.answer ∙ x.route-is) (λ i. route_output (visits-left i) (violations-left i))
