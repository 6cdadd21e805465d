-- `checks::route_checks_needed` meets its contract. Assumes nothing.
use mathlib.Core.Path.{sym, ◌∙◌}
use Rattle.evaluation.specs.Checks.{checks_needed_f}
use Rattle.evaluation.proofs.checks.route_checks_needed.Goals as goal

pub returns-then-has_time_windows : goal.returns-then-has_time_windows
unfolding checks_needed_f
returns-then-has_time_windows c = rw (sym c.has_time_windows.ensures ∙ c.if-has_time_windows.true)

pub returns : goal.returns
unfolding checks_needed_f
returns c = rw (sym c.has_time_windows.ensures ∙ c.if-has_time_windows.false) c.is_limited.ensures
