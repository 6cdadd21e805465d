-- `hours::day_of` meets its contract. Assumes nothing.
use Rattle.std.specs.Prelude.{None, Some}
use mathlib.Core.Path.{◌≡◌}
use Rattle.whole.proofs.Bits.{fl-zero, fl-one}
use borrow.Author.Rules.{rules}
use Rattle.latest.proofs.hours.day_of.Goals as goal

pub returns-in-None : goal.returns-in-None
returns-in-None c =
    let from = c in
    let e : from.args.limits.rest ≡ None = search rules in
    rw (e, fl-zero, from.above_limit-long.ensures)

pub returns-in-Some : goal.returns-in-Some
returns-in-Some c =
    let small = c in
    let known = small in
    let from = known in
    let e : from.args.limits.rest ≡ Some known.in-Some.b = search rules in
    rw (e, small.smaller.ensures, from.above_limit-long.ensures, fl-one)
