-- `gain::gain_floor` meets its contract. Assumes nothing.
use mathlib.Core.Path.{refl}
use lib.Ieee.{mul}
use Rattle.whole.specs.Gain.{gain_floor_f}
use Rattle.improve_base.proofs.gain.gain_floor.Goals as goal

pub returns : goal.returns
unfolding mul gain_floor_f
returns c = refl
