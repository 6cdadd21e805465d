-- `stops::penalty_price` meets its contract. Assumes nothing.
use mathlib.Core.Path.{◌≡◌}
use Rattle.std.specs.Prelude.{None}
use Rattle.whole.proofs.Bits.{fl-zero}
use borrow.Author.Rules.{rules}
use Rattle.cut_stops.proofs.stops.penalty_price.Goals as goal

pub returns-in-None : goal.returns-in-None
returns-in-None c = let e : c.args.penalty ≡ None = search rules in rw (e, fl-zero)
