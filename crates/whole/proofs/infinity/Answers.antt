-- `infinity` meets its contract: 1 divided by 0. Assumes nothing.
use Rattle.std.proofs.Common.{refl}
use lib.Ieee.{div, of_bits}
use Rattle.whole.proofs.infinity.Goals as goal

pub returns : goal.returns
unfolding div of_bits
returns c = refl
