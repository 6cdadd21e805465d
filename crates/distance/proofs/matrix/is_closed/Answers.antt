-- `matrix::is_closed` meets its contract. Assumes nothing.
use mathlib.Core.Path.{ap}
use lib.Ieee as Ieee
use Rattle.distance.specs.Lookup.{is_closed_f}
use Rattle.distance.proofs.matrix.is_closed.Goals as goal

pub returns : goal.returns
unfolding is_closed_f
returns c = ap (Ieee.eq c.args.number) c.no_road.ensures
