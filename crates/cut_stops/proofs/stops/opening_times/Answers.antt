-- `stops::opening_times` meets its contract. Assumes nothing.
use mathlib.Core.Path.{◌≡◌}
use Rattle.std.specs.Prelude.{None}
use Rattle.whole.proofs.Bits.{fl-zero}
use borrow.Author.Rules.{rules}
use Rattle.cut_stops.proofs.stops.opening_times.Goals as goal

pub returns-in-None : goal.returns-in-None
returns-in-None c = let e : c.args.opening ≡ None = search rules in rw (e, fl-zero)
