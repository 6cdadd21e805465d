-- `work::runs_left` meets its contract. Assumes nothing.
use Rattle.std.proofs.Common.{◌≤◌, length, replicate, arith}
use Rattle.cut_table.proofs.Fronts.{front}
use Rattle.bench_timing.specs.Every.{every_ends}
use Rattle.bench_timing.proofs.Ends.{ends-rise}
use Rattle.bench_timing.proofs.Left.{ends-room, left_is}
use Rattle.bench_timing.proofs.work.runs_left.Goals as goal

pub eliminate_routes-left-requires-clause-calls_value : goal.eliminate_routes-left-requires-clause-calls_value
eliminate_routes-left-requires-clause-calls_value c =
    let a = c.args in
    let w = c.write_every-many in
    let given = front w.result (every_ends a.run (length a.tour.now)) (replicate 128 0) w.new.ends w.ensures.count w.ensures.ends in
    let f : length a.tour.now ≤ 128 = omega (arith, c.requires.callable.few) in
    let many = ends-room a.run a.tour.now _ f given in
    (f, many, rw given (ends-rise a.run (length a.tour.now)))

pub returns : goal.returns
returns c =
    let a = c.args in
    let w = c.write_every-many in
    let t = c.search_of-search in
    let given = front w.result (every_ends a.run (length a.tour.now)) (replicate 128 0) w.new.ends w.ensures.count w.ensures.ends in
    let done = c.eliminate_routes-left.ensures.counts in
    left_is a.held.head a.held.customers a.distances.now a.times.now t.result t.ensures a.run a.tour.now _ given done
    c.nearest_u64_to_f64.result c.nearest_u64_to_f64.ensures
