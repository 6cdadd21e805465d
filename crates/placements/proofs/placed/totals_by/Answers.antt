-- `placed::totals_by` meets its contract, by the placement and by whether the limits have a break. Assumes nothing.
use mathlib.Core.Path.{◌≡◌, sym, ap, ◌∙◌}
use Rattle.models.specs.declared.placement.Placement.TheVariants.{Clock, Least}
use Rattle.std.specs.Prelude.{None, Some}
use Rattle.models.specs.Records.{rest_of}
use Rattle.placements.proofs.Choosing.{clock-totals, plain-totals, least-totals}
use borrow.Author.Rules.{rules}
use Rattle.placements.proofs.placed.totals_by.Goals as goal

pub returns-in_default : goal.returns-in_default
returns-in_default c =
    let earlier = c in
    let a = earlier.args in
    let e : a.placement ≡ Clock = search rules in
    c.allowed.ensures ∙ sym (clock-totals _ _ _ _ e)

pub returns-in_default-rest : goal.returns-in_default-rest
returns-in_default-rest c =
    let told = c in
    let a = told.args in
    let e : a.placement ≡ Least = search rules in
    let r : a.limits.rest ≡ None = search rules in
    c.allowed-in_default-rest.ensures ∙ sym (plain-totals _ _ _ _ e (ap rest_of r))

pub returns : goal.returns
returns c =
    let rest = c in
    let told = rest in
    let a = told.args in
    let e : a.placement ≡ Least = search rules in
    let r : a.limits.rest ≡ Some c.in-Some.b = search rules in
    c.least.ensures ∙ sym (least-totals _ _ _ _ e _ (ap rest_of r))
