-- `rest::given_start` meets its contract: no break, no place, and at its call. Assumes nothing.
use mathlib.Core.Path.{◌≡◌, sym, ap, ◌∙◌}
use lib.ListN.{length}
use Rattle.models.specs.declared.vehicle.VehicleBreak.{VehicleBreak}
use Rattle.std.specs.Prelude.{Option, Some}
use Rattle.models.specs.Records.{rest_of}
use Rattle.timeline.specs.Timing.{given_start_f}
use Rattle.timeline.proofs.Assembling.{start-at}
use borrow.Author.Rules.{rules}
use Rattle.timeline.proofs.rest.given_start.Goals as goal

pub returns-in_err-b : goal.returns-in_err-b
unfolding given_start_f
returns-in_err-b c = search rules

pub returns-then-place-eq0 : goal.returns-then-place-eq0
unfolding given_start_f
returns-then-place-eq0 c = search rules

pub returns : goal.returns
returns c =
    let known = c in
    let S = known in
    let a = S.args in
    let e : a.rest ≡ Some known.in_ok-b.b = search rules in
    let long : length a.visits ≡ 128 = search rules in
    c.started.ensures
    ∙ start-at _ a.place a.visits _ c.if-place-eq0.false (rw long S.requires)
    ∙ ap (λ (x : (Option VehicleBreak)). given_start_f (rest_of x) a.place a.visits) (sym e)
