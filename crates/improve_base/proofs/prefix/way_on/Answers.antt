-- `prefix::way_on` meets its contract. Assumes nothing.
use mathlib.Core.Path.{◌≡◌, ap, sym, ◌∙◌}
use Rattle.std.specs.Prelude.{None, Some}
use Rattle.cut_stops.specs.Stops.{numbers, listed}
use Rattle.improve_base.specs.Prefix.{reached_f}
use Rattle.improve_base.proofs.Onward.{driven-on}
use borrow.Author.Rules.{rules}
use Rattle.improve_base.proofs.prefix.way_on.Goals as goal

pub returns-in-None : goal.returns-in-None
returns-in-None c =
    let drove = c in
    let a = drove.args in
    let t = listed (numbers a.codes.now a.figures.now) a.distances.now a.times.now a.size in
    let e : drove.drive_on.result ≡ None = search rules in
    sym (ap (λ o. reached_f o) e) ∙ driven-on t a.way a.cid _ drove.drive_on.ensures

pub returns-in-Some : goal.returns-in-Some
returns-in-Some c =
    let drove = c in
    let a = drove.args in
    let t = listed (numbers a.codes.now a.figures.now) a.distances.now a.times.now a.size in
    let e : drove.drive_on.result ≡ Some c.in-Some.w = search rules in
    sym (ap (λ o. reached_f o) e) ∙ driven-on t a.way a.cid _ drove.drive_on.ensures
