-- `walk::break_or` meets its contract. Assumes nothing.
use mathlib.Core.Path.{◌≡◌}
use Rattle.whole.proofs.Bits.{fl-zero}
use Rattle.std.specs.Prelude.{None}
use borrow.Author.Rules.{rules}
use Rattle.marker.proofs.walk.break_or.Goals as goal

pub returns-in-None : goal.returns-in-None
returns-in-None c = let e : c.args.rest ≡ None = search rules in rw (e, fl-zero)
