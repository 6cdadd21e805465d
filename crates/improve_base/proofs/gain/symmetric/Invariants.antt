-- `gain::symmetric` meets its contract. The loop's invariant: the legs between the calls from number i on are all as long both ways exactly
-- when all legs are. Assumes nothing.
-- ---- where the legs of a call are known
use mathlib.Core.Path.{◌≡◌}
use lib.ListN.{drop}
use Rattle.distance.specs.Lookup.{number_f}
use Rattle.improve_base.specs.Gain.{symmetric_f}
use Rattle.improve_base.proofs.gain.symmetric.Given as goal

abbrev pub invariant-loop-i : goal.invariant-loop-i
invariant-loop-i l = symmetric_f (number_f l.distances l.size) (drop l.i l.calls) ≡ symmetric_f (number_f l.distances l.size) l.calls
