-- `route::route_feasible` meets its contract. Assumes nothing.
use mathlib.Core.Path.{◌≡◌, refl, ap, ◌∙◌}
use Rattle.std.specs.Prelude.{Option, None, Some, is_some}
use Rattle.basics.specs.Options.{present}
use Rattle.evaluation.specs.Route.{feasible_f}
use Rattle.evaluation.proofs.route.route_feasible.Goals as goal

seen : {A : Type 0} (o : Option A) → is_some o ≡ present o
seen None = refl
seen (Some a) = refl

pub returns : goal.returns
unfolding feasible_f
returns c = c.is_some.ensures ∙ ap is_some c.allowed.ensures ∙ seen _
