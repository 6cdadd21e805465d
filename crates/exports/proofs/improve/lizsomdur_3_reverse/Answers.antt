-- `improve::lizsomdur_3_reverse` meets its contract. Assumes nothing.
use mathlib.Core.Path.{◌≡◌, sym, ap, ◌∙◌}
use Rattle.sheet_read.specs.declared.read.Reading.TheVariants as Readings
use Rattle.sheet_read.specs.Summary.{held_counts, held_summary}
use Rattle.sheet_loaded.proofs.Reading.{is-accepted}
use Rattle.call_improvers.specs.declared.reversing.Reversed.TheVariants as Reverseds
use Rattle.exports.specs.Improve.{reverse_outputs}
use Rattle.exports.proofs.Improved.{reverse-unread, reverse-refused, reverse-given}
use borrow.Author.Rules.{rules}
use Rattle.exports.proofs.improve.lizsomdur_3_reverse.Goals as goal

pub reverse_sheet-requires : goal.reverse_sheet-requires
reverse_sheet-requires c =
    let e : c.read.result ≡ Readings.Sheet c.in-Sheet.found = search rules in
    sym (ap held_summary e) ∙ c.read.ensures

pub returns-in-Refused : goal.returns-in-Refused
returns-in-Refused c =
    let a = c.args in
    let old = reverse_outputs a.word.now a.improved.now a.distance.now in
    let e : c.read.result ≡ Readings.Refused c.in-Refused.number c.in-Refused.at = search rules in
    reverse-unread a.sheet.now a.run.now old c.in-Refused.number c.in-Refused.at (sym (ap held_summary e) ∙ c.read.ensures)

pub returns-in-Refused-reverse_sheet : goal.returns-in-Refused-reverse_sheet
returns-in-Refused-reverse_sheet c =
    let a = c.args in
    let old = reverse_outputs a.word.now a.improved.now a.distance.now in
    let e : c.read.result ≡ Readings.Sheet c.in-Sheet.found = search rules in
    let q = is-accepted a.sheet.now (held_counts c.in-Sheet.found) (sym (ap held_summary e) ∙ c.read.ensures) in
    let m = c.reverse_sheet in
    let h : m.result ≡ Reverseds.Refused c.in-Refused-reverse_sheet.number = search rules in
    reverse-refused a.sheet.now a.run.now old q.0 q.1 q.2 m.result m.new.improved (m.ensures q.0 q.1 q.2) c.in-Refused-reverse_sheet.number h

pub returns-in-Improved : goal.returns-in-Improved
returns-in-Improved c =
    let a = c.args in
    let old = reverse_outputs a.word.now a.improved.now a.distance.now in
    let e : c.read.result ≡ Readings.Sheet c.in-Sheet.found = search rules in
    let q = is-accepted a.sheet.now (held_counts c.in-Sheet.found) (sym (ap held_summary e) ∙ c.read.ensures) in
    let m = c.reverse_sheet in
    let h : m.result ≡ Reverseds.Improved c.in-Improved.left = search rules in
    reverse-given a.sheet.now a.run.now old q.0 q.1 q.2 m.result m.new.improved (m.ensures q.0 q.1 q.2) c.in-Improved.left h
