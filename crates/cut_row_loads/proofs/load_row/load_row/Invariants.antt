-- `load_row::load_row` meets its contract. The loop's invariant is `LoadAlong` for whatever tables the lists are worked out from: after m calls of the row, load and way are those of these calls,
-- nothing is late, and the cells up to i + m are as the row leaves them. Assumes nothing.
use lib.ListN.{drop}
use Rattle.models.specs.Load.{load_of}
use Rattle.cut_table.specs.Table.{table}
use Rattle.cut_runs.specs.Runs.{row_lists}
use Rattle.cut_runs.proofs.Along.{row_from}
use Rattle.cut_runs.proofs.Going.{Going}
use Rattle.cut_runs.proofs.LoadAlong.{LoadAlong}
use Rattle.cut_row_loads.proofs.load_row.load_row.Given as goal

abbrev pub invariant-loop-m : goal.invariant-loop-m
invariant-loop-m l =
    Going (row_lists l.held l.legs l.time_legs l.codes l.figures) l.i (load_of l.load) l.m
    (λ t. LoadAlong t l.terms (row_from (drop l.i l.held) l.i (table l.initial.cost l.initial.dist l.initial.pred) l.base l.before) (table l.cost l.dist l.pred) (load_of l.load) l.gone l.m)
