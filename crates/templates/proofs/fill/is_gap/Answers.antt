-- `fill::is_gap` meets its contract. Assumes nothing.
use borrow.Author.Tests.{eq-eqb, ne_eqb}
use Rattle.templates.specs.Fill.{takes_one}
use Rattle.templates.proofs.fill.is_gap.Goals as goal

pub returns-then-b-eq37 : goal.returns-then-b-eq37
unfolding takes_one
returns-then-b-eq37 c = rw (eq-eqb c.args.b 37 c.if-b-eq37.true)

pub returns-else-b-eq37 : goal.returns-else-b-eq37
unfolding takes_one
returns-else-b-eq37 c = rw (ne_eqb c.args.b 37 c.if-b-eq37.false)
