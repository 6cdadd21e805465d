-- `every::write_every` meets its contract. The loop's invariant: the first k ends are written. Assumes nothing.
use Rattle.std.proofs.Common.{◌-◌}
use Rattle.bench_timing.proofs.Ends.{EndsTo}
use Rattle.bench_timing.proofs.every.write_every.Given as goal

abbrev pub invariant-loop-end : goal.invariant-loop-end
invariant-loop-end l = EndsTo l.run l.n l.initial.ends l.ends l.end l.k

abbrev pub decreases-loop-end : goal.decreases-loop-end
decreases-loop-end l = l.n - l.end
