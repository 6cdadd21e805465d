use Rattle.call_shared.proofs.Padded.{padded-gathered}
use Rattle.definitions.specs.Evaluation.{eval_by}
use Rattle.definitions.specs.Bytes.{numbers_of}
use Rattle.placements.specs.Chosen.{placement_of}
use Rattle.call_runs.specs.Evaluating.{evaluation_in}
use Rattle.planner.specs.Calls.{lent_sheet}
use Rattle.planner.specs.Evaluating.{eval_refusal}
use Rattle.planner.proofs.RunKept.{same-eval, kept}
use Rattle.planner.proofs.evaluating.route_eval.Goals as goal

pub returns : goal.returns
returns c =
    let a = c.args in
    let cs = a.customers.now in
    kept evaluation_in eval_refusal same-eval (eval_by (placement_of a.placement)) (lent_sheet a.head cs a.distances.now a.times.now) (numbers_of a.run.now) (c.route_eval.ensures cs (rw (c.count-n.ensures, c.gathered-all.ensures) (padded-gathered cs)))
