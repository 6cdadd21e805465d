-- `stop::rest_words` meets its contract. Assumes nothing.
use native.Mathlib.Omega.{arith}
use mathlib.Core.Path.{◌≡◌}
use Rattle.std.specs.Prelude.{None}
use Rattle.listing_lines.proofs.Putting.{nothing}
use borrow.Author.Rules.{rules}
use Rattle.times_lines.proofs.stop.rest_words.Goals as goal

pub returns-in_default : goal.returns-in_default
returns-in_default c =
    let a = c.args in
    let e : a.start ≡ None = search rules in
    record { text = rw e (nothing a.at a.out.now); short = omega arith }
