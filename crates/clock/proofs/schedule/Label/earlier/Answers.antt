-- `Label::earlier` meets its contract, by which of the labels there are. Assumes nothing.
use mathlib.Core.Path.{◌≡◌, sym, ◌∙◌}
use Rattle.std.specs.Prelude.{None, Some}
use Rattle.clock.specs.Serving.{earlier_f}
use borrow.Author.Rules.{rules}
use Rattle.clock.proofs.schedule.Label.earlier.Goals as goal

pub returns-in_default : goal.returns-in_default
unfolding earlier_f
returns-in_default c = let e : c.args.a ≡ None = search rules in rw e

pub returns-in_default-b : goal.returns-in_default-b
unfolding earlier_f
returns-in_default-b c =
    let a = c.args in
    let e : a.a ≡ Some c.in-Some.x = search rules in
    let f : a.b ≡ None = search rules in
    rw (e, f)

pub returns-then-smaller : goal.returns-then-smaller
unfolding earlier_f
returns-then-smaller c =
    let second = c in
    let first = second in
    let a = first.args in
    let e : a.a ≡ Some first.in-Some.x = search rules in
    let f : a.b ≡ Some second.in-Some-b.y = search rules in
    rw (e, f) (rw (sym c.smaller.ensures ∙ c.if-smaller.true))

pub returns-else-smaller : goal.returns-else-smaller
unfolding earlier_f
returns-else-smaller c =
    let second = c in
    let first = second in
    let a = first.args in
    let e : a.a ≡ Some first.in-Some.x = search rules in
    let f : a.b ≡ Some second.in-Some-b.y = search rules in
    rw (e, f) (rw (sym c.smaller.ensures ∙ c.if-smaller.false))
