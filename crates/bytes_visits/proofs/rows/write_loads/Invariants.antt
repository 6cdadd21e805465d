-- `rows::write_loads` meets its contract. Assumes nothing.
use Rattle.bytes_visits.specs.Rows.{loads_row_f}
use Rattle.bytes_visits.proofs.Writing.{Rows}
use Rattle.bytes_visits.proofs.rows.write_loads.Given as goal

abbrev pub invariant-loop-i : goal.invariant-loop-i
invariant-loop-i l = Rows (loads_row_f l.fn.visits) 2 l.n l.initial.loads l.loads l.i
