-- `rest::duration_of` meets its contract. Assumes nothing.
use mathlib.Core.Path.{◌≡◌}
use Rattle.std.specs.Prelude.{None}
use Rattle.whole.proofs.Bits.{fl-zero}
use borrow.Author.Rules.{rules}
use Rattle.visits.proofs.rest.duration_of.Goals as goal

pub returns-in-None : goal.returns-in-None
returns-in-None c = let e : c.args.rest ≡ None = search rules in rw (e, fl-zero)
