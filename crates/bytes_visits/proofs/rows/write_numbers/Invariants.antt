-- `rows::write_numbers` meets its contract. Assumes nothing.
use Rattle.bytes_visits.specs.Rows.{number_row_f}
use Rattle.bytes_visits.proofs.Writing.{Rows}
use Rattle.bytes_visits.proofs.rows.write_numbers.Given as goal

abbrev pub invariant-loop-i : goal.invariant-loop-i
invariant-loop-i l = Rows (number_row_f l.fn.list) 1 l.n l.initial.numbers l.numbers l.i
