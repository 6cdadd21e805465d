-- `trip::service_start` meets its contract. Assumes nothing.
use mathlib.Core.Path.{◌≡◌}
use Rattle.std.specs.Prelude.{None, Some}
use Rattle.visits.specs.Visiting.{begin_f}
use borrow.Author.Rules.{rules}
use Rattle.visits.proofs.trip.service_start.Goals as goal

pub returns-in-None : goal.returns-in-None
unfolding begin_f
returns-in-None c = let e : c.args.opening ≡ None = search rules in rw e

pub returns-in-Some : goal.returns-in-Some
unfolding begin_f
returns-in-Some c = let e : c.args.opening ≡ Some c.in-Some.window = search rules in rw (e, ← c.waiting_time.ensures)
