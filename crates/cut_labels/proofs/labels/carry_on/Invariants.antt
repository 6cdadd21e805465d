-- `labels::carry_on` meets its contract. The loop's invariant is `Carrying`: the first k labels have served the call or are left out, and those behind stand as they did. Assumes nothing.
use Rattle.std.specs.Prelude.{None}
use Rattle.models.specs.Records.{customer_of}
use Rattle.clock.specs.Serving.{serve_f}
use Rattle.cut_labels.specs.Labels.{lists}
use Rattle.cut_labels.proofs.LabelLaws.{Carrying}
use Rattle.cut_labels.proofs.labels.carry_on.Given as goal

abbrev pub invariant-loop-k : goal.invariant-loop-k
invariant-loop-k l =
    Carrying (serve_f (customer_of l.customer) None l.index l.travel) (lists l.initial.times l.initial.lates l.initial.pays l.initial.places) (lists l.times l.lates l.pays l.places) l.left l.k
