-- `work::on_bytes` meets its contract. Assumes nothing.
use Rattle.std.proofs.Common.{sym, ap, ◌∙◌}
use Rattle.sheet_read.specs.Summary.{held_summary}
use Rattle.sheet_loaded.proofs.Reading.{refused-is}
use Rattle.bench_timing.proofs.Sheets.{timed-refused}
use Rattle.bench_timing.proofs.work.on_bytes.Goals as goal

pub returns-in-Refused : goal.returns-in-Refused
returns-in-Refused c =
    let a = c.args in
    let k = c.in-Refused in
    timed-refused a.work a.n a.bytes.now k.field-0 k.field-1 (refused-is a.bytes.now k.field-0 k.field-1 (sym (ap held_summary k.is) ∙ c.read.ensures))
