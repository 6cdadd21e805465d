-- `reading::read_sheet` meets its contract. Assumes nothing.
use mathlib.Core.Path.{◌≡◌, sym, ◌∙◌}
use Rattle.sheet_read.specs.declared.read.Reading.TheVariants.{Refused, Sheet}
use Rattle.call_reader.proofs.ReadAnswers.{short-reads, refused-reads, sheet-reads}
use borrow.Author.Rules.{rules}
use Rattle.call_reader.proofs.reading.read_sheet.Goals as goal

pub returns-then-too_short : goal.returns-then-too_short
returns-then-too_short c =
    let a = c.args in
    short-reads a.bytes.now a.customers a.distances.now a.times.now a.tour.now
    (sym c.too_short.ensures ∙ c.if-too_short.true)

pub returns-in-Refused : goal.returns-in-Refused
returns-in-Refused c =
    let e : c.read.result ≡ Refused c.in-Refused.number c.in-Refused.word = search rules in
    let a = c.args in
    refused-reads a.bytes.now a.customers a.distances.now a.times.now a.tour.now
    (sym c.too_short.ensures ∙ c.if-too_short.false) c.read.result c.read.ensures _ _ e

pub returns-in-Sheet : goal.returns-in-Sheet
returns-in-Sheet c =
    let x = c.in-Sheet.contents in
    let e : c.read.result ≡ Sheet x = search rules in
    let a = c.args in
    sheet-reads a.bytes.now a.customers a.distances.now a.times.now a.tour.now
    (sym c.too_short.ensures ∙ c.if-too_short.false) c.read.result c.read.ensures x e
    c.write_values.ensures.written c.write_values-in-Sheet.ensures.written c.write_tour.ensures.written
