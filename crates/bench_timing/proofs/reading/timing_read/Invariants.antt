-- `reading::timing_read` meets its contract. Assumes nothing.
use Rattle.std.proofs.Common.{◌≡◌, length}
use Rattle.whole.specs.Whole.{fl}
use Rattle.definitions.specs.Reader.{read}
use Rattle.bench_timing.specs.Work.{last_of, on_sheet}
use Rattle.bench_timing.proofs.reading.timing_read.Given as goal

abbrev pub invariant-loop : goal.invariant-loop
invariant-loop l = l.calls ≡ last_of l.counter (on_sheet (λ s tour. fl (length tour)) (read l.sheet))
