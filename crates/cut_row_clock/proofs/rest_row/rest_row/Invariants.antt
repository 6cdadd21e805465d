-- `rest_row::rest_row` meets its contract. The loop's invariant is `RestAlong` for whatever tables the lists are worked out from: after m calls of the row, load, way and clock are those of
-- these calls, and the cells up to i + m are as the row leaves them. Assumes nothing.
use Prim.Native.Nat.{◌+◌}
use mathlib.Core.Path.{◌≡◌}
use Rattle.std.specs.Prelude.{Some}
use lib.ListN.{drop}
use Rattle.models.specs.declared.placement.Placement.TheVariants.{Clock}
use Rattle.models.specs.Load.{load_of}
use Rattle.clock.specs.Records.{clock_of}
use Rattle.cut_table.specs.Table.{table}
use Rattle.cut_runs.specs.Runs.{over_by, row_lists}
use Rattle.cut_runs.proofs.Along.{row_from}
use Rattle.cut_runs.proofs.Going.{Going}
use Rattle.cut_row_clock.proofs.RestAlong.{RestAlong}
use Rattle.cut_row_clock.proofs.rest_row.rest_row.Given as goal

abbrev pub invariant-loop-m : goal.invariant-loop-m
invariant-loop-m l =
    Going (row_lists l.held l.legs l.time_legs l.codes l.figures) l.i (load_of l.load) l.m
    (λ t.
    RestAlong (over_by t l.terms Clock (Some (clock_of l.initial.clock).rest)) (clock_of l.initial.clock).rest (row_from (drop l.i l.held) l.i (table l.initial.cost l.initial.dist l.initial.pred) l.base l.before) (table l.cost l.dist l.pred)
    (load_of l.load) l.gone (clock_of l.clock) l.m)
    × ((clock_of l.clock).index ≡ l.m + 1)
