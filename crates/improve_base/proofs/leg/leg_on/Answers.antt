-- `leg::leg_on` meets its contract. Assumes nothing.
use mathlib.Core.Path.{ap, ◌∙◌}
use mathlib.Core.List.{List}
use lib.Ieee.{Float}
use Rattle.distance.specs.Lookup.{number_f}
use Rattle.distance.proofs.Ways.{no-times, own-times}
use Rattle.improve_base.proofs.OpenLegs.{cell-read, drive-open}
use Rattle.improve_base.proofs.leg.leg_on.Goals as goal

pub returns-then-times-eq0 : goal.returns-then-times-eq0
returns-then-times-eq0 c =
    let tested = c in
    let cell = tested in
    let a = cell.args in
    let d = cell-read a.distances.now a.size a.from a.to _ _ cell.cell_of-cell.ensures tested.if-distances-cell.false tested.if-distances-cell.false in
    let t = d ∙ ap (λ (table : List Float). number_f table a.size a.from a.to) (no-times a.distances.now a.times.now c.if-times-eq0.true) in
    drive-open a.distances.now a.times.now a.size a.from a.to cell.requires _ _ d t

pub returns : goal.returns
returns c =
    let last = c in
    let tested = last in
    let cell = tested in
    let a = cell.args in
    let found = cell.cell_of-cell.ensures in
    let d = cell-read a.distances.now a.size a.from a.to _ _ found tested.if-distances-cell.false tested.if-distances-cell.false in
    let own = own-times a.distances.now a.times.now last.if-times-eq0.false in
    let t = cell-read a.times.now a.size a.from a.to _ _ found tested.if-distances-cell.false last.if-times-cell.false in
    drive-open a.distances.now a.times.now a.size a.from a.to cell.requires _ _ d (t ∙ ap (λ (table : List Float). number_f table a.size a.from a.to) own)
