-- `every::next_end` meets its contract. Assumes nothing.
use Rattle.std.proofs.Common.{◌-◌, le-leb}
use borrow.Author.Tests.{lt-leb}
use Rattle.bench_timing.specs.Every.{next_end}
use Rattle.bench_timing.proofs.every.next_end.Goals as goal

pub returns-then-n-from : goal.returns-then-n-from
unfolding next_end
returns-then-n-from c = let a = c.args in let s = c.step_of-step in rw (← s.ensures, le-leb (a.n - a.from) s.result c.if-n-from.true)

pub returns-else-n-from : goal.returns-else-n-from
unfolding next_end
returns-else-n-from c = let a = c.args in let s = c.step_of-step in rw (← s.ensures, lt-leb (a.n - a.from) s.result c.if-n-from.false)
