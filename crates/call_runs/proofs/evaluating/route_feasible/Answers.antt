-- `evaluating::route_feasible` meets its contract. Assumes nothing.
use mathlib.Core.Path.{ap, ◌∙◌}
use Rattle.definitions.specs.Evaluation.{route_feasible}
use Rattle.evaluation.specs.Records.{lent, limits_of}
use Rattle.evaluation.specs.Route.{feasible_f}
use Rattle.evaluation.proofs.RouteExact.{feasible-exact}
use Rattle.call_runs.specs.declared.evaluating.Feasible.TheVariants.{Answer}
use Rattle.call_runs.specs.Evaluating.{feasible_in}
use Rattle.call_runs.proofs.RunAnswers.{run-read, refused-run, accepted-run}
use Rattle.call_runs.proofs.evaluating.route_feasible.Goals as goal

pub returns-then-number-ne0 : goal.returns-then-number-ne0
returns-then-number-ne0 c =
    let told = c.refuse_evaluating-number in
    let a = c.args in
    refused-run a.head a.all a.n a.distances.now a.times.now a.run.now told.result told.ensures.refused told.ensures.image
    feasible_in (λ s. route_feasible s a.run.now) c.if-number-ne0.true

pub returns : goal.returns
returns c =
    let told = c.refuse_evaluating-number in
    let a = c.args in
    let t = lent a.all a.distances.now a.times.now a.head.places in
    let run = run-read a.head a.all a.n a.distances.now a.times.now a.run.now told.result told.ensures.refused told.ensures.image
    c.if-number-ne0.false c.well_formed.1.0.1.0.1 c.widen-k.new.numbers c.widen-k.result c.widen-k.ensures.counted c.widen-k.ensures.read in
    accepted-run a.head a.all a.n a.distances.now a.times.now a.run.now told.result told.ensures.refused told.ensures.image
    feasible_in (λ c. route_feasible c a.run.now) c.if-number-ne0.false
    (Answer c.route_feasible-feasible.result) (λ L. Answer (feasible_f t L a.run.now))
    (ap Answer (c.route_feasible-feasible.ensures ∙ ap (feasible_f t (limits_of a.head.limits)) run))
    (λ c W C I. ap Answer (feasible-exact c W t I a.run.now C))
