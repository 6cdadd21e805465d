-- `placed::least` meets its contract. The loop's invariant: the best so far is that of none and the first k calls. Assumes nothing.
use native.Mathlib.Numerals.{add-one}
use mathlib.Core.Path.{sym, ap, ap₂, ◌∙◌}
use Rattle.models.specs.Records.{break_of}
use Rattle.clock.specs.Least.{pick_f}
use Rattle.evaluation.specs.Records.{lent, limits_of}
use Rattle.placements.specs.Placed.{least_to_f}
use Rattle.placements.proofs.placed.least.Goals as goal

pub loop-k-init : goal.loop-k-init
unfolding least_to_f
loop-k-init c = c.unplaced-best.ensures

pub loop-k-preserved : goal.loop-k-preserved
unfolding least_to_f
loop-k-preserved c =
    let a = c.args in
    c.pick-best.ensures ∙ ap₂ pick_f c.loop-k.invariant c.placed-here.ensures
    ∙ ap (least_to_f (lent a.customers a.distances.now a.times.now a.size) (break_of a.rest) (limits_of a.limits) a.route.now) (sym (add-one c.loop-k.k))
