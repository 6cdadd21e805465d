-- `BreakClock::counts` meets its contract. Assumes nothing.
use mathlib.Core.Path.{sym, ◌∙◌}
use Rattle.clock.specs.Clock.{counts_f}
use Rattle.clock.proofs.schedule.BreakClock.counts.Goals as goal

pub returns-then-is_excused : goal.returns-then-is_excused
unfolding counts_f
returns-then-is_excused c = rw (sym c.is_excused.ensures ∙ c.if-is_excused.true)

pub returns-else-is_excused : goal.returns-else-is_excused
unfolding counts_f
returns-else-is_excused c = rw (sym c.is_excused.ensures ∙ c.if-is_excused.false)
