-- `refill::noted_row` meets its contract. Assumes nothing.
use native.Mathlib.Omega.{arith}
use Rattle.cut_runs.specs.Runs.{over, row_lists}
use Rattle.cut_drops.specs.Refill.{rows}
use Rattle.cut_drops.proofs.Noting.{noted}
use Rattle.cut_drops.proofs.refill.noted_row.Goals as goal

pub returns : goal.returns
returns c =
    let known = c in
    let s = known in
    let a = s.args in
    let x = row_lists a.held.now a.legs.now a.time_legs.now a.codes.now a.figures.now in
    noted (λ t. over t a.terms) x a.i (rows a.cost.now a.dist.now a.pred.now a.reach.now) _ c.row-m.result c.row-m.ensures.fact
    (omega (arith, s.requires.reach-long, s.requires.row.inside, s.requires.row.few))
