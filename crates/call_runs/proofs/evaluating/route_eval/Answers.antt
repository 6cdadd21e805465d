-- `evaluating::route_eval` meets its contract. Assumes nothing.
use mathlib.Core.Path.{◌≡◌, ap, ◌∙◌}
use Rattle.definitions.specs.Evaluation as Whole
use Rattle.std.specs.Prelude.{None, Some}
use Rattle.evaluation.specs.Records.{lent, limits_of}
use Rattle.placements.specs.Chosen.{placement_of}
use Rattle.placements.specs.Placed.{eval_by}
use Rattle.call_runs.specs.declared.evaluating.Evaluation.TheVariants.{NotAllowed, Allowed}
use Rattle.call_runs.specs.Evaluating.{evaluation_in}
use Rattle.call_runs.proofs.RunAnswers.{run-read, refused-run}
use Rattle.call_runs.proofs.EvalCase.{not-allowed-in, allowed-in, evaluated-run}
use borrow.Author.Rules.{rules}
use Rattle.call_runs.proofs.evaluating.route_eval.Goals as goal

pub returns-then-number-ne0 : goal.returns-then-number-ne0
returns-then-number-ne0 c =
    let told = c.refuse_evaluating-number in
    let a = c.args in
    refused-run a.head a.all a.n a.distances.now a.times.now a.run.now told.result told.ensures.refused told.ensures.image
    evaluation_in (λ s. Whole.eval_by (placement_of a.placement) s a.run.now) c.if-number-ne0.true

pub returns-in-None : goal.returns-in-None
returns-in-None c =
    let told = c.refuse_evaluating-number in
    let a = c.args in
    let run = run-read a.head a.all a.n a.distances.now a.times.now a.run.now told.result told.ensures.refused told.ensures.image
    c.if-number-ne0.false c.well_formed.1.0.1.0.1 c.widen-k.new.numbers c.widen-k.result c.widen-k.ensures.counted c.widen-k.ensures.read in
    let t = lent a.all a.distances.now a.times.now a.head.places in
    let evaluated = c.eval_by in
    let e : evaluated.result ≡ None = search rules in
    evaluated-run a.head a.all a.n a.distances.now a.times.now a.run.now a.placement told.result told.ensures.refused told.ensures.image
    c.if-number-ne0.false evaluated.result (evaluated.ensures ∙ ap (eval_by t (limits_of a.head.limits) a.placement) run) NotAllowed (not-allowed-in evaluated.result e)

pub returns-in-Some : goal.returns-in-Some
returns-in-Some c =
    let told = c.refuse_evaluating-number in
    let a = c.args in
    let run = run-read a.head a.all a.n a.distances.now a.times.now a.run.now told.result told.ensures.refused told.ensures.image
    c.if-number-ne0.false c.well_formed.1.0.1.0.1 c.widen-k.new.numbers c.widen-k.result c.widen-k.ensures.counted c.widen-k.ensures.read in
    let t = lent a.all a.distances.now a.times.now a.head.places in
    let evaluated = c.eval_by in
    let x = c.in-Some.e in
    let e : evaluated.result ≡ Some x = search rules in
    evaluated-run a.head a.all a.n a.distances.now a.times.now a.run.now a.placement told.result told.ensures.refused told.ensures.image
    c.if-number-ne0.false evaluated.result (evaluated.ensures ∙ ap (eval_by t (limits_of a.head.limits) a.placement) run) (Allowed x) (allowed-in evaluated.result x e)
