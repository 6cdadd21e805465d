-- `work::once` meets its contract. Assumes nothing.
use Rattle.std.proofs.Common.{◌≡◌, rules}
use Rattle.improve_base.proofs.OpenLegs.{both-open}
use Rattle.bench_timing.specs.declared.work.Work.TheVariants.{Eliminate}
use Rattle.bench_timing.proofs.work.once.Goals as goal

pub reversed_distance-requires : goal.reversed_distance-requires
reversed_distance-requires c =
    let a = c.args in
    record { callable = c.requires.callable; all_open = both-open a.distances.now a.times.now (rw c.in-TwoOpt.is at c.requires.times_value) }

pub runs_left-requires : goal.runs_left-requires
runs_left-requires c =
    let a = c.args in
    let e : a.work ≡ Eliminate c.in-Eliminate.run' = search rules in
    record { callable = c.requires.callable; all_open = both-open a.distances.now a.times.now (rw e at c.requires.times_value) }
