-- `work::split_tw_cost` meets its contract. Assumes nothing.
use Rattle.bench_timing.specs.Work.{split_tw_cost}
use Rattle.bench_timing.proofs.work.split_tw_cost.Goals as goal

pub returns : goal.returns
unfolding split_tw_cost
returns c = c.split_tw-cut.ensures.fact.cost-is
