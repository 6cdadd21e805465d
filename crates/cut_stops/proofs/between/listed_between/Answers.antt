-- `between::listed_between` meets its contract. Assumes nothing.
use native.Mathlib.Omega.{arith}
use mathlib.Core.Path.{ap, ◌∙◌}
use Rattle.distance.proofs.Ways.{no_row, no-column}
use Rattle.cut_stops.specs.Stops.{listed_as}
use Rattle.cut_stops.proofs.ReadBack.{pair-outside, pair_inside}
use Rattle.cut_stops.proofs.between.listed_between.Goals as goal

pub returns-then-size-from : goal.returns-then-size-from
returns-then-size-from c =
    let b = c in
    let a = b.args in
    c.listed_pair.ensures
    ∙ rw (c.infinity.ensures, c.infinity-then-size-from.ensures)
    (ap (listed_as _)
    (pair-outside a.distances.now a.times.now a.size a.from a.to (λ t. no_row t a.size a.from a.to b.if-size-from.true)))

pub returns-then-size-to : goal.returns-then-size-to
returns-then-size-to c =
    let b = c in
    let a = b.args in
    c.listed_pair-then-size-to.ensures
    ∙ rw (c.infinity-then-size-to.ensures, c.infinity-then-size-to-2.ensures)
    (ap (listed_as _)
    (pair-outside a.distances.now a.times.now a.size a.from a.to (λ t. no-column t a.size a.from a.to b.if-size-to.true)))

pub returns : goal.returns
returns c =
    let earlier = c in
    let a = earlier.args in
    c.listed_in.ensures ∙ ap (listed_as _) (pair_inside a.distances.now a.times.now a.size a.from a.to (omega arith) (omega arith))
