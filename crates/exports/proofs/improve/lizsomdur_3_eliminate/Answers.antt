-- `improve::lizsomdur_3_eliminate` meets its contract. Assumes nothing.
use mathlib.Core.Path.{◌≡◌, sym, ap, ◌∙◌}
use Rattle.sheet_read.specs.declared.read.Reading.TheVariants as Readings
use Rattle.sheet_read.specs.Summary.{held_counts, held_summary}
use Rattle.sheet_loaded.proofs.Reading.{is-accepted}
use Rattle.call_improvers.specs.declared.eliminating.Elimination.TheVariants as Eliminations
use Rattle.bytes_improve.specs.Improve.{runs}
use Rattle.exports.specs.Improve.{eliminate_outputs}
use Rattle.exports.proofs.Improved.{eliminate-unread, eliminate-refused, eliminate-given}
use borrow.Author.Rules.{rules}
use Rattle.exports.proofs.improve.lizsomdur_3_eliminate.Goals as goal

pub eliminate_sheet-requires : goal.eliminate_sheet-requires
eliminate_sheet-requires c =
    let e : c.read.result ≡ Readings.Sheet c.in-Sheet.found = search rules in
    sym (ap held_summary e) ∙ c.read.ensures

pub returns-in-Refused : goal.returns-in-Refused
returns-in-Refused c =
    let a = c.args in
    let given = runs a.calls.now a.ends.now in
    let old = eliminate_outputs a.word.now (runs a.left_calls.now a.left_ends.now) a.counts.now in
    let e : c.read.result ≡ Readings.Refused c.in-Refused.number c.in-Refused.at = search rules in
    eliminate-unread a.sheet.now given old c.in-Refused.number c.in-Refused.at (sym (ap held_summary e) ∙ c.read.ensures)

pub returns-in-Refused-eliminate_sheet : goal.returns-in-Refused-eliminate_sheet
returns-in-Refused-eliminate_sheet c =
    let a = c.args in
    let given = runs a.calls.now a.ends.now in
    let old = eliminate_outputs a.word.now (runs a.left_calls.now a.left_ends.now) a.counts.now in
    let e : c.read.result ≡ Readings.Sheet c.in-Sheet.found = search rules in
    let q = is-accepted a.sheet.now (held_counts c.in-Sheet.found) (sym (ap held_summary e) ∙ c.read.ensures) in
    let m = c.eliminate_sheet in
    let h : m.result ≡ Eliminations.Refused c.in-Refused-eliminate_sheet.number = search rules in
    eliminate-refused a.sheet.now given old q.0 q.1 q.2 m.result (runs m.new.left_calls m.new.left_ends) (m.ensures q.0 q.1 q.2) c.in-Refused-eliminate_sheet.number h

pub returns-in-Left : goal.returns-in-Left
returns-in-Left c =
    let a = c.args in
    let given = runs a.calls.now a.ends.now in
    let old = eliminate_outputs a.word.now (runs a.left_calls.now a.left_ends.now) a.counts.now in
    let e : c.read.result ≡ Readings.Sheet c.in-Sheet.found = search rules in
    let q = is-accepted a.sheet.now (held_counts c.in-Sheet.found) (sym (ap held_summary e) ∙ c.read.ensures) in
    let m = c.eliminate_sheet in
    let h : m.result ≡ Eliminations.Left c.in-Left.left = search rules in
    eliminate-given a.sheet.now given old q.0 q.1 q.2 m.result (runs m.new.left_calls m.new.left_ends) (m.ensures q.0 q.1 q.2) c.in-Left.left h
