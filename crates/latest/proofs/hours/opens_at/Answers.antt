-- `hours::opens_at` meets its contract. Assumes nothing.
use Rattle.std.specs.Prelude.{None}
use Rattle.whole.proofs.Bits.{fl-zero}
use mathlib.Core.Path.{◌≡◌, sym}
use borrow.Author.Rules.{rules}
use Rattle.latest.proofs.hours.opens_at.Goals as goal

pub returns-in-None : goal.returns-in-None
returns-in-None c =
    let e : c.args.opening ≡ None = search rules in
    rw e (sym fl-zero)
