-- `run::mark_totals` meets its contract. Assumes nothing.
use mathlib.Core.Path.{sym, ap, ◌∙◌}
use lib.Ieee.{Float}
use Rattle.definitions.specs.Sheet.{BreakOf}
use Rattle.marker.specs.declared.verdict.Verdict.TheVariants.{BreakMissing}
use Rattle.std.specs.Prelude.{Err}
use Rattle.marker.specs.RunMark.{totals_mark_f}
use Rattle.marker.proofs.run.mark_totals.Goals as goal

pub returns-then-not-placed : goal.returns-then-not-placed
unfolding totals_mark_f
returns-then-not-placed c =
    let a = c.args in
    rw (sym c.placed.ensures ∙ c.if-not-placed.true)
    (ap (λ (b : BreakOf Float). Err (BreakMissing a.run a.totals.duration b.earliest)) c.break_or-b.ensures)

pub returns-then-not-allows : goal.returns-then-not-allows
unfolding totals_mark_f
returns-then-not-allows c =
    rw (sym c.placed.ensures ∙ c.if-not-placed.false, sym c.allows.ensures ∙ c.if-not-allows.true, c.limit_or_zero.ensures)

pub returns-then-not-allows-2 : goal.returns-then-not-allows-2
unfolding totals_mark_f
returns-then-not-allows-2 c =
    rw (
      sym c.placed.ensures ∙ c.if-not-placed.false,
      sym c.allows.ensures ∙ c.if-not-allows.false,
      sym c.allows-2.ensures ∙ c.if-not-allows-2.true,
      c.limit_or_zero-then-not-allows-2.ensures,
    )

pub returns : goal.returns
unfolding totals_mark_f
returns c =
    rw (
      sym c.placed.ensures ∙ c.if-not-placed.false,
      sym c.allows.ensures ∙ c.if-not-allows.false,
      sym c.allows-2.ensures ∙ c.if-not-allows-2.false,
    )
