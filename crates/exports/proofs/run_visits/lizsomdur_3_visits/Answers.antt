-- `run_visits::lizsomdur_3_visits` meets its contract. Assumes nothing.
use mathlib.Core.Path.{◌≡◌, sym, ap, ◌∙◌}
use Rattle.sheet_read.specs.declared.read.Reading.TheVariants as Readings
use Rattle.sheet_read.specs.Summary.{held_counts, held_summary}
use Rattle.sheet_loaded.proofs.Reading.{is-accepted}
use Rattle.bytes_visits.specs.declared.run.Visiting.TheVariants as Visitings
use Rattle.exports.specs.Visits.{visits_outputs}
use Rattle.exports.proofs.Visited.{roomy-lists, visits-short, visits-unread, visits-refused, visits-given}
use borrow.Author.Rules.{rules}
use Rattle.exports.proofs.run_visits.lizsomdur_3_visits.Goals as goal

pub returns-then-too_short : goal.returns-then-too_short
returns-then-too_short c =
    let a = c.args in
    let old = visits_outputs a.word.now a.times.now a.loads.now a.violations.now a.figures.now a.counts.now a.totals.now in
    visits-short a.sheet.now a.run.now a.place old c.too_short.result c.too_short.ensures c.if-too_short.true

pub visits_sheet-requires : goal.visits_sheet-requires
visits_sheet-requires c =
    let e : c.read.result ≡ Readings.Sheet c.in-Sheet.found = search rules in
    record { found = sym (ap held_summary e) ∙ c.read.ensures; roomy = roomy-lists _ c.too_short.result c.too_short.ensures c.if-too_short.false }

pub returns-in-Refused : goal.returns-in-Refused
returns-in-Refused c =
    let a = c.args in
    let old = visits_outputs a.word.now a.times.now a.loads.now a.violations.now a.figures.now a.counts.now a.totals.now in
    let e : c.read.result ≡ Readings.Refused c.in-Refused.number c.in-Refused.at = search rules in
    visits-unread a.sheet.now a.run.now a.place old c.too_short.result c.too_short.ensures c.if-too_short.false c.in-Refused.number c.in-Refused.at (sym (ap held_summary e) ∙ c.read.ensures)

pub returns-in-Refused-visits_sheet : goal.returns-in-Refused-visits_sheet
returns-in-Refused-visits_sheet c =
    let a = c.args in
    let old = visits_outputs a.word.now a.times.now a.loads.now a.violations.now a.figures.now a.counts.now a.totals.now in
    let e : c.read.result ≡ Readings.Sheet c.in-Sheet.found = search rules in
    let q = is-accepted a.sheet.now (held_counts c.in-Sheet.found) (sym (ap held_summary e) ∙ c.read.ensures) in
    let m = c.visits_sheet in
    let h : m.result ≡ Visitings.Refused c.in-Refused-visits_sheet.number = search rules in
    visits-refused a.sheet.now a.run.now a.place old c.too_short.result c.too_short.ensures c.if-too_short.false q.0 q.1 q.2 m.result _ (m.ensures q.0 q.1 q.2) c.in-Refused-visits_sheet.number h

pub returns-in-Told : goal.returns-in-Told
returns-in-Told c =
    let a = c.args in
    let old = visits_outputs a.word.now a.times.now a.loads.now a.violations.now a.figures.now a.counts.now a.totals.now in
    let e : c.read.result ≡ Readings.Sheet c.in-Sheet.found = search rules in
    let q = is-accepted a.sheet.now (held_counts c.in-Sheet.found) (sym (ap held_summary e) ∙ c.read.ensures) in
    let m = c.visits_sheet in
    let h : m.result ≡ Visitings.Told c.in-Told.t = search rules in
    visits-given a.sheet.now a.run.now a.place old c.too_short.result c.too_short.ensures c.if-too_short.false q.0 q.1 q.2 m.result _ (m.ensures q.0 q.1 q.2) c.in-Told.t h
