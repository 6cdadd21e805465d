-- `least_row::least_row` meets its contract. The loop's invariant is `LeastAlong` for whatever tables the lists are worked out from: after m calls of the row, load, way and labels are those of these
-- calls, and the cells up to i + m are as the row leaves them. Assumes nothing.
use Prim.Native.Nat.{◌≤◌}
use Rattle.std.specs.Prelude.{Some}
use lib.ListN.{drop}
use Rattle.models.specs.declared.placement.Placement.TheVariants.{Least}
use Rattle.models.specs.Records.{break_of}
use Rattle.models.specs.Load.{load_of}
use Rattle.cut_labels.specs.Labels.{lists, labels_in, Full}
use Rattle.cut_table.specs.Table.{table}
use Rattle.cut_runs.specs.Runs.{over_by, row_lists}
use Rattle.cut_runs.proofs.Along.{row_from}
use Rattle.cut_runs.proofs.Going.{Going}
use Rattle.cut_row_least.proofs.LeastAlong.{LeastAlong}
use Rattle.cut_row_least.proofs.least_row.least_row.Given as goal

abbrev pub invariant-loop-m : goal.invariant-loop-m
invariant-loop-m l =
    Going (row_lists l.held l.legs l.time_legs l.codes l.figures) l.i (load_of l.load) l.m
    (λ t.
    LeastAlong (over_by t l.terms Least (Some (break_of l.rest))) (break_of l.rest) (row_from (drop l.i l.held) l.i (table l.initial.cost l.initial.dist l.initial.pred) l.base l.ahead) (table l.cost l.dist l.pred)
    (load_of l.load) l.gone l.before (labels_in (lists l.times l.lates l.pays l.places) l.n) l.m)
    × Full (lists l.times l.lates l.pays l.places)
    × (l.n ≤ l.m)
