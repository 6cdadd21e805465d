-- `rows::plain_row` meets its contract. The loop's invariant is `PlainAlong` for whatever tables the lists are worked out from: after m calls of the row, load, way, time and lateness cost are
-- those of these calls, and the cells up to i + m are as the row leaves them. Assumes nothing.
use Rattle.std.specs.Prelude.{None}
use lib.ListN.{drop}
use Rattle.models.specs.Load.{load_of}
use Rattle.cut_table.specs.Table.{table}
use Rattle.cut_runs.specs.Runs.{over_by, row_lists}
use Rattle.cut_runs.proofs.Along.{row_from}
use Rattle.cut_runs.proofs.Going.{Going}
use Rattle.cut_rows.proofs.PlainAlong.{PlainAlong}
use Rattle.cut_rows.proofs.rows.plain_row.Given as goal

abbrev pub invariant-loop-m : goal.invariant-loop-m
invariant-loop-m l =
    Going (row_lists l.held l.legs l.time_legs l.codes l.figures) l.i (load_of l.load) l.m
    (λ t.
    PlainAlong (over_by t l.terms l.terms.placement None) (row_from (drop l.i l.held) l.i (table l.initial.cost l.initial.dist l.initial.pred) l.base l.before) (table l.cost l.dist l.pred) (load_of l.load) l.gone l.time l.late_cost l.m)
