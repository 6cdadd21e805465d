-- `fill::used` meets its contract. Assumes nothing.
use native.Mathlib.Omega.{arith}
use mathlib.Core.Path.{sym, ◌∙◌}
use Rattle.templates.proofs.Filling.{gap-left, gap-used, plain-used}
use Rattle.templates.proofs.fill.used.Goals as goal

pub overflow_add-result : goal.overflow_add-result
overflow_add-result c =
    let a = c.args in
    omega (arith, gap-left a.b a.k a.many (sym c.is_gap.ensures ∙ c.if-is_gap.true))

pub returns-then-is_gap : goal.returns-then-is_gap
returns-then-is_gap c = let a = c.args in sym (gap-used a.b a.k a.many (sym c.is_gap.ensures ∙ c.if-is_gap.true))

pub returns-else-is_gap : goal.returns-else-is_gap
returns-else-is_gap c = let a = c.args in sym (plain-used a.b a.k a.many (sym c.is_gap.ensures ∙ c.if-is_gap.false))
