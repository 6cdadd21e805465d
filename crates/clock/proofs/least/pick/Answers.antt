-- `least::pick` meets its contract, by which of the ends there are. Assumes nothing.
use mathlib.Core.Path.{◌≡◌, sym, ◌∙◌}
use Rattle.std.specs.Prelude.{None, Some}
use Rattle.clock.specs.Least.{pick_f}
use borrow.Author.Rules.{rules}
use Rattle.clock.proofs.least.pick.Goals as goal

pub returns-in_default : goal.returns-in_default
unfolding pick_f
returns-in_default c = let e : c.args.a ≡ None = search rules in rw e

pub returns-in_default-b : goal.returns-in_default-b
unfolding pick_f
returns-in_default-b c =
    let a = c.args in
    let e : a.a ≡ Some c.in-Some.x = search rules in
    let f : a.b ≡ None = search rules in
    rw (e, f)

pub returns-then-better : goal.returns-then-better
unfolding pick_f
returns-then-better c =
    let second = c in
    let first = second in
    let a = first.args in
    let e : a.a ≡ Some first.in-Some.x = search rules in
    let f : a.b ≡ Some second.in-Some-b.y = search rules in
    rw (e, f) (rw (sym c.better.ensures ∙ c.if-better.true))

pub returns-else-better : goal.returns-else-better
unfolding pick_f
returns-else-better c =
    let second = c in
    let first = second in
    let a = first.args in
    let e : a.a ≡ Some first.in-Some.x = search rules in
    let f : a.b ≡ Some second.in-Some-b.y = search rules in
    rw (e, f) (rw (sym c.better.ensures ∙ c.if-better.false))
