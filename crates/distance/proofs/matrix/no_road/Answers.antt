-- `matrix::no_road` meets its contract. Assumes nothing.
use mathlib.Core.Path.{refl}
use lib.Ieee.{of_bits, of_int}
use Rattle.whole.specs.Whole.{fl}
use Rattle.distance.proofs.matrix.no_road.Goals as goal

pub returns : goal.returns
unfolding of_bits fl of_int
returns c = refl
