-- `hours::above_limit` meets its contract. Assumes nothing.
use Rattle.std.specs.Prelude.{Some}
use Rattle.whole.proofs.Bits.{fl-one}
use mathlib.Core.Path.{◌≡◌}
use borrow.Author.Rules.{rules}
use Rattle.latest.proofs.hours.above_limit.Goals as goal

pub returns-in-Some : goal.returns-in-Some
returns-in-Some c =
    let known = c in
    let e : known.args.limit ≡ Some known.in-Some.most = search rules in
    rw (e, fl-one)
