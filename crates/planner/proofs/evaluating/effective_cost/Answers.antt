use Rattle.call_shared.proofs.Padded.{padded-gathered}
use Rattle.definitions.specs.Evaluation.{effective_cost}
use Rattle.definitions.specs.Bytes.{numbers_of}
use Rattle.call_runs.specs.Evaluating.{cost_in}
use Rattle.planner.specs.Calls.{lent_sheet}
use Rattle.planner.specs.Evaluating.{cost_refusal}
use Rattle.planner.proofs.RunKept.{same-cost, kept}
use Rattle.planner.proofs.evaluating.effective_cost.Goals as goal

pub returns : goal.returns
returns c =
    let a = c.args in
    let cs = a.customers.now in
    kept cost_in cost_refusal same-cost effective_cost (lent_sheet a.head cs a.distances.now a.times.now) (numbers_of a.run.now) (c.effective_cost.ensures cs (rw (c.count-n.ensures, c.gathered-all.ensures) (padded-gathered cs)))
