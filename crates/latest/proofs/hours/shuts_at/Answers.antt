-- `hours::shuts_at` meets its contract. Assumes nothing.
use Rattle.std.specs.Prelude.{None, Some}
use Rattle.whole.proofs.Bits.{fl-one}
use mathlib.Core.Path.{◌≡◌}
use borrow.Author.Rules.{rules}
use Rattle.latest.proofs.hours.shuts_at.Goals as goal

pub returns-in-None : goal.returns-in-None
returns-in-None c =
    let told = c in
    let known = told in
    let e : known.args.opening ≡ Some known.in-Some.w = search rules in
    let h : known.args.penalty ≡ None = search rules in
    rw (e, h, fl-one)
