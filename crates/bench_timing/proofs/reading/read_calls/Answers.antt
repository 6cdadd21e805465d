-- `reading::read_calls` meets its contract. Assumes nothing.
use Rattle.std.proofs.Common.{length, sym, ap, ◌∙◌}
use Rattle.sheet_read.specs.Summary.{held_summary}
use Rattle.sheet_loaded.proofs.Reading.{refused-is}
use Rattle.whole.specs.Whole.{fl}
use Rattle.bench_timing.proofs.Sheets.{on-refused}
use Rattle.bench_timing.proofs.reading.read_calls.Goals as goal

pub returns-in-Refused : goal.returns-in-Refused
returns-in-Refused c =
    let a = c.args in
    let k = c.in-Refused in
    on-refused (λ s calls. fl (length calls)) a.bytes.now k.field-0 k.field-1 (refused-is a.bytes.now k.field-0 k.field-1 (sym (ap held_summary k.is) ∙ c.read.ensures))
