-- `sheet::pairs_fall` meets its contract. Assumes nothing.
use Rattle.refuse_numbers.specs.Falling.{pairs_fall_f}
use Rattle.refuse_order.proofs.sheet.pairs_fall.Goals as goal

pub returns : goal.returns
unfolding pairs_fall_f
returns c = rw (c.break_falls.ensures, c.any_applies.ensures)
