-- `rows::write_times` meets its contract. Assumes nothing.
use Rattle.bytes_visits.specs.Rows.{times_row_f}
use Rattle.bytes_visits.proofs.Writing.{Rows}
use Rattle.bytes_visits.proofs.rows.write_times.Given as goal

abbrev pub invariant-loop-i : goal.invariant-loop-i
invariant-loop-i l = Rows (times_row_f l.fn.visits l.begins) 3 l.n l.initial.times l.times l.i
