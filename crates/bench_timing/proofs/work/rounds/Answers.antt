-- `work::rounds` meets its contract. Assumes nothing.
use Rattle.std.proofs.Common.{sym, ◌∙◌}
use Rattle.whole.proofs.Bits.{fl-zero}
use Rattle.bench_timing.proofs.Sheets.{last_none}
use Rattle.bench_timing.proofs.work.rounds.Goals as goal

pub returns-then-is_barred : goal.returns-then-is_barred
returns-then-is_barred c = rw (sym c.is_barred.ensures ∙ c.if-is_barred.true) (sym (last_none c.args.n ∙ fl-zero))
