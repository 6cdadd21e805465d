use Rattle.call_shared.proofs.Padded.{padded-gathered}
use Rattle.definitions.specs.Bytes.{numbers_of}
use Rattle.planner.specs.Calls.{lent_sheet}
use Rattle.planner.specs.Eliminating.{elimination_output}
use Rattle.planner.proofs.ImproversKept.{elimination-kept}
use Rattle.planner.proofs.eliminating.eliminate_routes.Goals as goal

pub returns : goal.returns
returns c =
    let a = c.args in
    let cs = a.customers.now in
    let said = c.eliminate_routes.ensures in
    let answer-is = said.answer cs (rw (c.count-n.ensures, c.gathered-all.ensures) (padded-gathered cs)) in
    let calls-left-is = said.calls-left cs (rw (c.count-n.ensures, c.gathered-all.ensures) (padded-gathered cs)) in
    let ends-left-is = said.ends-left cs (rw (c.count-n.ensures, c.gathered-all.ensures) (padded-gathered cs)) in
    elimination-kept (lent_sheet a.head cs a.distances.now a.times.now) (numbers_of a.calls.now) (numbers_of a.ends.now)
    (elimination_output a.left_calls.now a.left_ends.now) answer-is (λ i. elimination_output (calls-left-is i) (ends-left-is i))
