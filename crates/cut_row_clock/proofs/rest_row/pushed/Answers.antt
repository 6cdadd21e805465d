-- `rest_row::pushed` meets its contract. Assumes nothing.
use Rattle.clock.specs.Clock.{push_f}
use Rattle.cut_row_clock.proofs.rest_row.pushed.Goals as goal

pub returns : goal.returns
unfolding push_f
returns c =
    let p = c in
    rw (p.last_call.ensures, p.taken.ensures, p.skipped.ensures)
