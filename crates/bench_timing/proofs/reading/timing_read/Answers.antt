-- `reading::timing_read` meets its contract. Assumes nothing.
use Rattle.std.proofs.Common.{sym}
use Rattle.whole.proofs.Bits.{fl-zero}
use Rattle.bench_timing.proofs.reading.timing_read.Goals as goal

pub loop-init : goal.loop-init
loop-init c = sym fl-zero
