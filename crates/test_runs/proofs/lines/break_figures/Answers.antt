-- `lines::break_figures` meets its contract. Assumes nothing.
use mathlib.Core.Path.{◌≡◌}
use Rattle.std.specs.Prelude.{Some}
use Rattle.test_runs.specs.Along.{follows}
use borrow.Author.Rules.{rules}
use Rattle.test_runs.proofs.lines.break_figures.Goals as goal

pub returns-in-None : goal.returns-in-None
unfolding follows
returns-in-None c = rw c.in-None.is

pub returns-in-Some : goal.returns-in-Some
unfolding follows
returns-in-Some c =
    let known = c in
    let e : known.args.start ≡ Some known.in-Some.time = search rules in
    rw (e, c.figure.ensures, c.number-end.ensures)
