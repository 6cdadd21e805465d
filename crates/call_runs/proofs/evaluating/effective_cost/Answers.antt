-- `evaluating::effective_cost` meets its contract. Assumes nothing.
use mathlib.Core.Path.{ap, ◌∙◌}
use Rattle.definitions.specs.Evaluation.{effective_cost}
use Rattle.evaluation.specs.Records.{lent, limits_of}
use Rattle.evaluation.specs.Route.{cost_f}
use Rattle.evaluation.proofs.RouteExact.{cost-exact}
use Rattle.call_runs.specs.declared.evaluating.Cost.TheVariants.{Answer}
use Rattle.call_runs.specs.Evaluating.{cost_in}
use Rattle.call_runs.proofs.RunAnswers.{run-read, refused-run, accepted-run}
use Rattle.call_runs.proofs.evaluating.effective_cost.Goals as goal

pub returns-then-number-ne0 : goal.returns-then-number-ne0
returns-then-number-ne0 c =
    let told = c.refuse_evaluating-number in
    let a = c.args in
    refused-run a.head a.all a.n a.distances.now a.times.now a.run.now told.result told.ensures.refused told.ensures.image
    cost_in (λ s. effective_cost s a.run.now) c.if-number-ne0.true

pub returns : goal.returns
returns c =
    let told = c.refuse_evaluating-number in
    let a = c.args in
    let run = run-read a.head a.all a.n a.distances.now a.times.now a.run.now told.result told.ensures.refused told.ensures.image
    c.if-number-ne0.false c.well_formed.1.0.1.0.1 c.widen-k.new.numbers c.widen-k.result c.widen-k.ensures.counted c.widen-k.ensures.read in
    let t = lent a.all a.distances.now a.times.now a.head.places in
    accepted-run a.head a.all a.n a.distances.now a.times.now a.run.now told.result told.ensures.refused told.ensures.image
    cost_in (λ c. effective_cost c a.run.now) c.if-number-ne0.false
    (Answer c.effective_cost-cost.result) (λ L. Answer (cost_f t L a.run.now))
    (ap Answer (c.effective_cost-cost.ensures ∙ ap (cost_f t (limits_of a.head.limits)) run))
    (λ c W C I. ap Answer (cost-exact c W t I a.run.now C))
