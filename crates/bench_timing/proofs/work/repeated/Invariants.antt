-- `work::repeated` meets its contract. Assumes nothing.
use Rattle.std.proofs.Common.{◌≡◌}
use Rattle.bench_timing.specs.Work.{instance_in, work_f, last_of}
use Rattle.bench_timing.proofs.work.repeated.Given as goal

abbrev pub invariant-loop : goal.invariant-loop
invariant-loop l = l.given ≡ last_of l.counter (work_f l.work (instance_in l.held l.distances l.times) l.tour)
