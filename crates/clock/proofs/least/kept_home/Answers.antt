-- `least::kept_home` meets its contract. Assumes nothing.
use mathlib.Core.Path.{sym, ◌∙◌}
use Rattle.clock.specs.Least.{kept_home_f}
use Rattle.clock.proofs.least.kept_home.Goals as goal

pub returns-then-allow : goal.returns-then-allow
unfolding kept_home_f
returns-then-allow c = rw c.home.ensures (rw (sym c.allow.ensures ∙ c.if-allow.true))

pub returns-else-allow : goal.returns-else-allow
unfolding kept_home_f
returns-else-allow c = rw (sym c.allow.ensures ∙ c.if-allow.false)
