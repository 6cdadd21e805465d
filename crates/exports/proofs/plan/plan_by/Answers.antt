-- `plan::plan_by` meets its contract. Assumes nothing.
use mathlib.Core.Path.{◌≡◌, sym, ap, ◌∙◌}
use Rattle.placements.specs.Chosen.{placement_of}
use Rattle.sheet_read.specs.declared.read.Reading.TheVariants.{Refused, Sheet}
use Rattle.sheet_read.specs.Summary.{held_counts, held_summary}
use Rattle.sheet_loaded.proofs.Reading.{is-accepted}
use Rattle.exports.specs.Plan.{plan_outputs}
use Rattle.exports.proofs.PlanAnswers.{roomy, plan-short, plan-unread, plan-given}
use borrow.Author.Rules.{rules}
use Rattle.exports.proofs.plan.plan_by.Goals as goal

pub returns-then-too_short : goal.returns-then-too_short
returns-then-too_short c =
    let a = c.args in
    let old = plan_outputs a.word.now a.served.now a.run_ends.now a.break_places.now a.break_starts.now a.dropped.now a.counts.now a.totals.now in
    plan-short (placement_of a.placement) a.sheet.now old c.too_short.result c.too_short.ensures c.if-too_short.true

pub plan_sheet-cut-requires : goal.plan_sheet-cut-requires
plan_sheet-cut-requires c =
    let e : c.read.result ≡ Sheet c.in-Sheet.found = search rules in
    record { found = sym (ap held_summary e) ∙ c.read.ensures; roomy = roomy _ _ _ _ _ c.too_short.result c.too_short.ensures c.if-too_short.false }

pub returns-in-Refused : goal.returns-in-Refused
returns-in-Refused c =
    let a = c.args in
    let old = plan_outputs a.word.now a.served.now a.run_ends.now a.break_places.now a.break_starts.now a.dropped.now a.counts.now a.totals.now in
    let e : c.read.result ≡ Refused c.in-Refused.number c.in-Refused.at = search rules in
    plan-unread (placement_of a.placement) a.sheet.now old c.too_short.result c.too_short.ensures c.if-too_short.false c.in-Refused.number c.in-Refused.at (sym (ap held_summary e) ∙ c.read.ensures)

pub returns-in-Sheet : goal.returns-in-Sheet
returns-in-Sheet c =
    let a = c.args in
    let old = plan_outputs a.word.now a.served.now a.run_ends.now a.break_places.now a.break_starts.now a.dropped.now a.counts.now a.totals.now in
    let e : c.read.result ≡ Sheet c.in-Sheet.found = search rules in
    let q = is-accepted a.sheet.now (held_counts c.in-Sheet.found) (sym (ap held_summary e) ∙ c.read.ensures) in
    plan-given (placement_of a.placement) a.sheet.now old c.too_short.result c.too_short.ensures c.if-too_short.false q.0 q.1 q.2 (c.plan_sheet-cut.ensures q.0 q.1 q.2)
