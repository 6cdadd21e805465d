-- `reading::loaded_calls` meets its contract. Assumes nothing.
use Rattle.sheet_read.specs.Summary.{held_counts}
use Rattle.sheet_loaded.proofs.Reading.{is-accepted}
use Rattle.bench_timing.proofs.Sheets.{counted-on}
use Rattle.bench_timing.proofs.reading.loaded_calls.Goals as goal

pub returns : goal.returns
returns c =
    let q = is-accepted c.args.bytes.now (held_counts c.args.found) c.requires in
    counted-on (c.load-l.ensures q.0 q.1 q.2) c.args.bytes.now q.2 c.nearest_u64_to_f64.result c.nearest_u64_to_f64.ensures
