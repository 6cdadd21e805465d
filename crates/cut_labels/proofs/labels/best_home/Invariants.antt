-- `labels::best_home` meets its contract. The loop's invariant: the best so far is that of the first k labels. Assumes nothing.
use mathlib.Core.Path.{◌≡◌}
use Rattle.clock.specs.Least.{limits_on}
use Rattle.cut_labels.specs.Labels.{lists, labels_in, best_from}
use Rattle.cut_labels.proofs.labels.best_home.Given as goal

abbrev pub invariant-loop-k : goal.invariant-loop-k
invariant-loop-k l =
    l.best ≡ best_from (limits_on l.limits) l.distance l.back l.initial.best (labels_in (lists l.times l.lates l.pays l.places) l.k)
