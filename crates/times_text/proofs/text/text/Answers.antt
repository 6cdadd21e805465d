-- `text::text` meets its contract. Assumes nothing.
use native.Mathlib.Omega.{arith}
use mathlib.Core.Path.{◌≡◌, sym, ap, ◌∙◌}
use Rattle.sheet_read.specs.declared.read.Reading.TheVariants.{Sheet, Refused}
use Rattle.sheet_read.specs.Summary.{held_summary}
use Rattle.mark_lines.proofs.Shown.{put_as}
use Rattle.times_text.proofs.Said.{refused-sheet}
use borrow.Author.Rules.{rules}
use Rattle.times_text.proofs.text.text.Goals as goal

pub told_text-requires : goal.told_text-requires
told_text-requires c =
    let found = c in
    let read = found in
    let start = read in
    let e : read.read.result ≡ Sheet found.in-Sheet.found = search rules in
    record { in_bounds = start.requires; found = sym (ap held_summary e) ∙ read.read.ensures }

pub returns-in-Refused : goal.returns-in-Refused
returns-in-Refused c =
    let sheet-refused = c in
    let number = sheet-refused in
    let read = number in
    let start = read in
    let a = start.args in
    let t = sheet-refused.sheet_refused.ensures in
    let e : read.read.result ≡ Refused c.in-Refused.number c.in-Refused.word = search rules in
    record { text = put_as (refused-sheet a.bytes.now a.cutting.now c.in-Refused.number c.in-Refused.word (sym (ap held_summary e) ∙ read.read.ensures)) t.text; short = omega (arith, start.requires.0, t.short) }
