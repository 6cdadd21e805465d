-- `Way::start` meets its contract. Assumes nothing.
use mathlib.Core.Path.{sym, ap₂}
use lib.Ieee.{Float}
use Rattle.whole.proofs.Bits.{fl-zero}
use Rattle.clock.specs.declared.schedule.Label.{Label}
use Rattle.evaluation.proofs.way.Way.start.Goals as goal

pub returns : goal.returns
returns c = ap₂ (λ (far : Float) (l : Label). record { distance = far; label = l; prev = 0 }) (sym fl-zero) c.start.ensures
