-- `mark::mark` meets its contract. Assumes nothing.
use mathlib.Core.Path.{◌≡◌}
use Rattle.std.specs.Prelude.{None, Some, Ok, Err}
use Rattle.marker.specs.Marks.{mark_f}
use borrow.Author.Rules.{rules}
use Rattle.marker.proofs.mark.mark.Goals as goal

pub returns-in-Some : goal.returns-in-Some
unfolding mark_f
returns-in-Some c =
    let e : c.differ.result ≡ Some c.in-Some.position = search rules in
    rw (← c.differ.ensures, e)

pub returns-in-Err : goal.returns-in-Err
unfolding mark_f
returns-in-Err c =
    let e : c.differ.result ≡ None = search rules in
    let f : c.mark_runs.result ≡ Err c.in-Err.v = search rules in
    rw (← c.differ.ensures, e, ← c.mark_runs.ensures, f)

pub returns-in-Ok : goal.returns-in-Ok
unfolding mark_f
returns-in-Ok c =
    let e : c.differ.result ≡ None = search rules in
    let f : c.mark_runs.result ≡ Ok c.in-Ok.total = search rules in
    rw (← c.differ.ensures, e, ← c.mark_runs.ensures, f) c.against.ensures
