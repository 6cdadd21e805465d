-- `refill::refill` meets its contract. The loop's invariant is `Again`: after s rows the cells behind q are those of the table of the rows below s. Assumes nothing.
use Rattle.cut_runs.specs.Runs.{over, row_lists}
use Rattle.cut_drops.specs.Refill.{rows, RowsLong}
use Rattle.cut_drops.proofs.Again.{Again}
use Rattle.cut_drops.proofs.refill.refill.Given as goal

abbrev pub invariant-loop-s : goal.invariant-loop-s
invariant-loop-s l =
    Again (λ t. over t l.terms) (row_lists l.held l.legs l.time_legs l.codes l.figures) l.q l.s (rows l.initial.cost l.initial.dist l.initial.pred l.initial.reach) (rows l.cost l.dist l.pred l.reach)
    × RowsLong (rows l.cost l.dist l.pred l.reach)
