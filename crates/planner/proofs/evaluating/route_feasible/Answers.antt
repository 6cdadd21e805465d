use Rattle.call_shared.proofs.Padded.{padded-gathered}
use Rattle.definitions.specs.Evaluation.{route_feasible}
use Rattle.definitions.specs.Bytes.{numbers_of}
use Rattle.call_runs.specs.Evaluating.{feasible_in}
use Rattle.planner.specs.Calls.{lent_sheet}
use Rattle.planner.specs.Evaluating.{feasible_refusal}
use Rattle.planner.proofs.RunKept.{same-feasible, kept}
use Rattle.planner.proofs.evaluating.route_feasible.Goals as goal

pub returns : goal.returns
returns c =
    let a = c.args in
    let cs = a.customers.now in
    kept feasible_in feasible_refusal same-feasible route_feasible (lent_sheet a.head cs a.distances.now a.times.now) (numbers_of a.run.now) (c.route_feasible.ensures cs (rw (c.count-n.ensures, c.gathered-all.ensures) (padded-gathered cs)))
