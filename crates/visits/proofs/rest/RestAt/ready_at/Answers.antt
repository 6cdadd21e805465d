-- `RestAt::ready_at` meets its contract: no break, at its call, or at another. Assumes nothing.
use mathlib.Core.Path.{◌≡◌}
use borrow.Author.Tests.{eq-eqb, ne_eqb}
use Rattle.std.specs.Prelude.{None, Some}
use Rattle.visits.specs.Visiting.{ready_at_f}
use borrow.Author.Rules.{rules}
use Rattle.visits.proofs.rest.RestAt.ready_at.Goals as goal

pub returns-in_default : goal.returns-in_default
unfolding ready_at_f
returns-in_default c = let e : c.args.self.start ≡ None = search rules in rw e

pub returns-then-self-index : goal.returns-then-self-index
unfolding ready_at_f
returns-then-self-index c =
    let known = c in
    let a = known.args in
    let e : a.self.start ≡ Some known.in-Some.from = search rules in
    rw (e, eq-eqb _ _ c.if-self-index.true)

pub returns-else-self-index : goal.returns-else-self-index
unfolding ready_at_f
returns-else-self-index c =
    let known = c in
    let a = known.args in
    let e : a.self.start ≡ Some known.in-Some.from = search rules in
    rw (e, ne_eqb _ _ c.if-self-index.false)
