-- `work::split_cost` meets its contract. Assumes nothing.
use Rattle.std.proofs.Common.{ap, ◌∙◌}
use Rattle.cut_runs.specs.Runs.{Instance}
use Rattle.split_tw.specs.SplitTw.{split_tw_f}
use Rattle.split.proofs.Bare.{lent-bare}
use Rattle.bench_timing.specs.Work.{split_cost}
use Rattle.bench_timing.proofs.work.split_cost.Goals as goal

pub returns : goal.returns
unfolding split_cost
returns c =
    let a = c.args in
    let head = a.held.head in
    c.split-cut.ensures.fact.cost-is
    ∙ ap (λ (I : Instance). (split_tw_f I a.tour.now).cost)
    (lent-bare a.held.customers a.distances.now a.times.now head.places head.capacity head.fixed_cost head.limits)
