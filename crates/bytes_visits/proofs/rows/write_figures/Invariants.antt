-- `rows::write_figures` meets its contract. Assumes nothing.
use Rattle.bytes_visits.specs.Rows.{figures_row_f}
use Rattle.bytes_visits.proofs.Writing.{Rows}
use Rattle.bytes_visits.proofs.rows.write_figures.Given as goal

abbrev pub invariant-loop-i : goal.invariant-loop-i
invariant-loop-i l = Rows (figures_row_f l.fn.list) 3 l.n l.initial.values l.values l.i
