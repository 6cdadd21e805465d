-- `least::excused_home` meets its contract. Assumes nothing.
use mathlib.Core.Path.{sym, ◌∙◌}
use Rattle.clock.specs.Least.{excused_home_f}
use Rattle.clock.proofs.least.excused_home.Goals as goal

pub returns-then-excused : goal.returns-then-excused
unfolding excused_home_f
returns-then-excused c = rw (sym c.excused.ensures ∙ c.if-excused.true) c.kept_home.ensures

pub returns-else-excused : goal.returns-else-excused
unfolding excused_home_f
returns-else-excused c = rw (sym c.excused.ensures ∙ c.if-excused.false)
