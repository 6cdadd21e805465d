-- `mark::mark_by` meets its contract. Assumes nothing.
use mathlib.Core.Path.{◌≡◌, sym, ap, ◌∙◌}
use Rattle.placements.specs.Chosen.{placement_of}
use Rattle.sheet_read.specs.declared.read.Reading.TheVariants as Readings
use Rattle.sheet_read.specs.Summary.{held_counts, held_summary}
use Rattle.sheet_loaded.proofs.Reading.{is-accepted}
use Rattle.call_cuts.specs.declared.marking.Marking.TheVariants as Markings
use Rattle.bytes_mark.specs.Mark.{given_runs}
use Rattle.exports.specs.Mark.{mark_outputs}
use Rattle.exports.proofs.Marked.{mark-unread, mark-refused, mark-small, mark-given}
use borrow.Author.Rules.{rules}
use Rattle.exports.proofs.mark.mark_by.Goals as goal

pub mark_sheet-requires : goal.mark_sheet-requires
mark_sheet-requires c =
    let e : c.read.result ≡ Readings.Sheet c.in-Sheet.found = search rules in
    sym (ap held_summary e) ∙ c.read.ensures

pub write_values-requires-clause-small : goal.write_values-requires-clause-small
write_values-requires-clause-small c =
    let a = c.args in
    let given = given_runs a.calls.now a.ends.now a.breaks.now in
    let old = mark_outputs a.word.now a.verdict.now a.values.now in
    let e : c.read.result ≡ Readings.Sheet c.in-Sheet.found = search rules in
    let q = is-accepted a.sheet.now (held_counts c.in-Sheet.found) (sym (ap held_summary e) ∙ c.read.ensures) in
    let m = c.mark_sheet in
    let h : m.result ≡ Markings.Verdict c.in-Verdict.v = search rules in
    mark-small (placement_of a.placement) a.sheet.now given old q.0 q.1 q.2 m.result (m.ensures q.0 q.1 q.2) c.in-Verdict.v h

pub returns-in-Refused : goal.returns-in-Refused
returns-in-Refused c =
    let a = c.args in
    let given = given_runs a.calls.now a.ends.now a.breaks.now in
    let old = mark_outputs a.word.now a.verdict.now a.values.now in
    let e : c.read.result ≡ Readings.Refused c.in-Refused.number c.in-Refused.at = search rules in
    mark-unread (placement_of a.placement) a.sheet.now given old c.in-Refused.number c.in-Refused.at (sym (ap held_summary e) ∙ c.read.ensures)

pub returns-in-Refused-mark_sheet : goal.returns-in-Refused-mark_sheet
returns-in-Refused-mark_sheet c =
    let a = c.args in
    let given = given_runs a.calls.now a.ends.now a.breaks.now in
    let old = mark_outputs a.word.now a.verdict.now a.values.now in
    let e : c.read.result ≡ Readings.Sheet c.in-Sheet.found = search rules in
    let q = is-accepted a.sheet.now (held_counts c.in-Sheet.found) (sym (ap held_summary e) ∙ c.read.ensures) in
    let m = c.mark_sheet in
    let h : m.result ≡ Markings.Refused c.in-Refused-mark_sheet.number = search rules in
    mark-refused (placement_of a.placement) a.sheet.now given old q.0 q.1 q.2 m.result (m.ensures q.0 q.1 q.2) c.in-Refused-mark_sheet.number h

pub returns-in-Verdict : goal.returns-in-Verdict
returns-in-Verdict c =
    let a = c.args in
    let given = given_runs a.calls.now a.ends.now a.breaks.now in
    let old = mark_outputs a.word.now a.verdict.now a.values.now in
    let e : c.read.result ≡ Readings.Sheet c.in-Sheet.found = search rules in
    let q = is-accepted a.sheet.now (held_counts c.in-Sheet.found) (sym (ap held_summary e) ∙ c.read.ensures) in
    let m = c.mark_sheet in
    let h : m.result ≡ Markings.Verdict c.in-Verdict.v = search rules in
    mark-given (placement_of a.placement) a.sheet.now given old q.0 q.1 q.2 m.result (m.ensures q.0 q.1 q.2) c.in-Verdict.v h
    c.number_of.result c.write_values.new.values c.number_of.ensures c.write_values.ensures
