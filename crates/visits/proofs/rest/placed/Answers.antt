-- `rest::placed` meets its contract. Assumes nothing.
use mathlib.Core.Path.{◌≡◌}
use Rattle.std.specs.Prelude.{None, Some}
use Rattle.visits.specs.Visiting.{placed_f}
use borrow.Author.Rules.{rules}
use Rattle.visits.proofs.rest.placed.Goals as goal

pub returns-in-None : goal.returns-in-None
unfolding placed_f
returns-in-None c = let e : c.args.rest ≡ None = search rules in rw e

pub returns-in-Some : goal.returns-in-Some
unfolding placed_f
returns-in-Some c =
    let known = c in
    let e : known.args.rest ≡ Some known.in-Some.b = search rules in
    rw e c.schedule.ensures
