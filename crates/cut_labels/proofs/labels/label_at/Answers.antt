-- `labels::label_at` meets its contract. Assumes nothing.
use mathlib.Core.Path.{refl}
use Rattle.cut_labels.specs.Labels.{label_at}
use Rattle.cut_labels.proofs.labels.label_at.Goals as goal

pub returns : goal.returns
unfolding label_at
returns c = refl
