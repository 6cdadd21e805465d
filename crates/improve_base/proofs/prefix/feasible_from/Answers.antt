-- `prefix::feasible_from` meets its contract. Assumes nothing.
use mathlib.Core.Path.{◌≡◌, ◌∙◌}
use Rattle.std.specs.Prelude.{None, Some}
use Rattle.improve_base.specs.Prefix.{feasible_from_f}
use Rattle.improve_base.proofs.Leading.{given-there}
use borrow.Author.Rules.{rules}
use Rattle.improve_base.proofs.prefix.feasible_from.Goals as goal

pub returns-in-None : goal.returns-in-None
unfolding feasible_from_f
returns-in-None c =
    let home = c in
    let e : home.home_from.result ≡ None = search rules in
    rw (← home.go_through-end.ensures, ← home.home_from.ensures, e)

pub returns-in-Some : goal.returns-in-Some
unfolding feasible_from_f
returns-in-Some c =
    let known = c in
    let home = known in
    let e : home.home_from.result ≡ Some known.in-Some.s = search rules in
    rw (← home.go_through-end.ensures, ← home.home_from.ensures, e) (c.allow.ensures ∙ given-there _ _)
