-- `labels::carry_on` meets its contract. The loop's invariant is `Carrying`: the first k labels have served the call or are left out, and those behind stand as they did. Assumes nothing.
use Rattle.cut_labels.proofs.LabelLaws.{carry-none, carry-one}
use Rattle.cut_labels.proofs.labels.carry_on.Goals as goal

pub loop-k-init : goal.loop-k-init
loop-k-init c = carry-none _ _ c.requires.0

pub loop-k-preserved : goal.loop-k-preserved
loop-k-preserved c = carry-one _ _ _ _ _ _ _ _ _ c.loop-k.invariant c.label_at-label.ensures c.serve-next.ensures c.put-left.ensures
