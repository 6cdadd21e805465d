-- `work::reversed_distance` meets its contract. Assumes nothing.
use Rattle.bench_timing.specs.Work.{reversed_distance}
use Rattle.bench_timing.proofs.work.reversed_distance.Goals as goal

pub returns : goal.returns
unfolding reversed_distance
returns c = rw (← c.search_of-search.ensures) c.two_opt_improve.ensures.result_value
