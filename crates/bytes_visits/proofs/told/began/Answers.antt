-- `told::began` meets its contract. Assumes nothing.
use mathlib.Core.Path.{◌≡◌}
use Rattle.std.specs.Prelude.{None}
use Rattle.whole.proofs.Bits.{fl-zero}
use borrow.Author.Rules.{rules}
use Rattle.bytes_visits.proofs.told.began.Goals as goal

pub returns-in-None : goal.returns-in-None
returns-in-None c = let e : c.args.start ≡ None = search rules in rw (e, fl-zero)
