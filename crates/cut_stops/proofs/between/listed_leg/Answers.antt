-- `between::listed_leg` meets its contract. Assumes nothing.
use mathlib.Core.Path.{◌≡◌, refl}
use Rattle.std.specs.Prelude.{None}
use Rattle.cut_stops.specs.Stops.{listed_as}
use borrow.Author.Rules.{rules}
use Rattle.cut_stops.proofs.between.listed_leg.Goals as goal

pub returns-in-Some : goal.returns-in-Some
unfolding listed_as
returns-in-Some c = search rules

pub returns-in-None : goal.returns-in-None
unfolding listed_as
returns-in-None c = let e : c.args.drive ≡ None = search rules in rw e refl
