-- `placed::rested_way` meets its contract, by what each step answers. Assumes nothing.
use native.Mathlib.Numerals.{add-one}
use mathlib.Core.Path.{◌≡◌, sym, ap, ◌∙◌}
use Rattle.std.specs.Prelude.{None, Some}
use lib.ListN.{take, get_or}
use Rattle.models.specs.declared.customer.Customer.{Customer}
use Rattle.models.specs.Records.{customer_of}
use Rattle.evaluation.specs.declared.way.Way.{Way}
use Rattle.evaluation.specs.Records.{lent}
use Rattle.evaluation.specs.Tables.{record_f, leg_f}
use Rattle.evaluation.specs.Way.{start_way, way_f}
use Rattle.evaluation.proofs.Reading.{read-record}
use Rattle.placements.proofs.Resting.{rest-failed, rest-closed, rest-barred, rest-taken}
use borrow.Author.Rules.{rules}
use Rattle.placements.proofs.placed.rested_way.Goals as goal
use Rattle.placements.proofs.placed.rested_way.Goals.{After-way_through, After-leg_between, After-serve}

-- the calls before it are served
driven-is : (c : After-way_through) → way_f (lent c.args.customers c.args.distances.now c.args.times.now c.args.size) start_way (take c.args.k c.args.route.now) ≡ c.way_through.result
driven-is c = sym (c.way_through.ensures ∙ ap (λ (x : Way). way_f (lent c.args.customers c.args.distances.now c.args.times.now c.args.size) x (take c.args.k c.args.route.now)) c.start.ensures)

way_at : (c : After-leg_between) → way_f (lent c.args.customers c.args.distances.now c.args.times.now c.args.size) start_way (take c.args.k c.args.route.now) ≡ Some c.in_ok-d.d
way_at c = let e : c.way_through.result ≡ Some c.in_ok-d.d = search rules in
    sym (c.way_through.ensures ∙ ap (λ (x : Way). way_f (lent c.args.customers c.args.distances.now c.args.times.now c.args.size) x (take c.args.k c.args.route.now)) c.start.ensures) ∙ e

-- it is served with the break there
leg-at : (c : After-serve) → leg_f (lent c.args.customers c.args.distances.now c.args.times.now c.args.size) c.in_ok-d.d.prev (get_or c.args.route.now c.args.k 0) ≡ Some c.in_ok-leg.leg
leg-at c = let e : c.leg_between.result ≡ Some c.in_ok-leg.leg = search rules in sym c.leg_between.ensures ∙ e

record-at : (c : After-serve) (d : Customer) → customer_of (get_or c.args.customers c.record_index-index.result d) ≡ record_f (lent c.args.customers c.args.distances.now c.args.times.now c.args.size) (get_or c.args.route.now c.args.k 0)
record-at c d =
    let a = c.args in
    let i = c.record_index-index.ensures in
    read-record a.customers a.distances.now a.times.now a.size _ _ d c.well_formed.1.0.1.0.1 i.0 i.1

pub returns-in_err-d : goal.returns-in_err-d
returns-in_err-d c =
    let w = (goal.at.returns-in_err-d c).After-way_through in
    let e : c.way_through.result ≡ None = search rules in
    c.from_residual.ensures ∙ (sym (rest-failed _ _ _ _ (driven-is w ∙ e)))

pub returns-in_err-leg : goal.returns-in_err-leg
returns-in_err-leg c =
    let d = (goal.at.returns-in_err-leg c).After-leg_between in
    let f : c.leg_between.result ≡ None = search rules in
    c.from_residual-in_err-leg.ensures ∙ (sym (rest-closed _ _ _ _ _ (way_at d) (sym c.leg_between.ensures ∙ f)))

pub returns-in_err-l : goal.returns-in_err-l
returns-in_err-l c =
    let v = (goal.at.returns-in_err-l c).After-serve in
    let d = (goal.at.returns-in_err-l c).After-leg_between in
    let f : c.serve.result ≡ None = search rules in
    c.from_residual-in_err-l.ensures ∙ (sym (rest-barred _ _ _ _ _ (way_at d) _ (leg-at v) _ (record-at v _) _ (add-one _) _ c.serve.ensures (f)))

pub returns : goal.returns
returns c =
    let v = (goal.at.returns c).After-serve in
    let d = (goal.at.returns c).After-leg_between in
    let f : c.serve.result ≡ Some c.in_ok-l.l = search rules in
    sym (rest-taken _ _ _ _ _ (way_at d) _ (leg-at v) _ (record-at v _) _ (add-one _) _ c.serve.ensures _ (f))
