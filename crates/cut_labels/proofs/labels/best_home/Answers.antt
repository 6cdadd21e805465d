-- `labels::best_home` meets its contract. The loop's invariant: the best so far is that of the first k labels. Assumes nothing.
use mathlib.Core.Path.{refl, ap, ap₂, ◌∙◌}
use Rattle.clock.specs.Least.{kept_home_f, pick_f}
use Rattle.cut_labels.specs.Labels.{labels_in, best_from}
use Rattle.cut_labels.proofs.LabelLaws.{best-more}
use Rattle.cut_labels.proofs.labels.best_home.Goals as goal

pub loop-k-init : goal.loop-k-init
unfolding labels_in best_from
loop-k-init c = refl

pub loop-k-preserved : goal.loop-k-preserved
loop-k-preserved c =
    c.pick-best.ensures
    ∙ ap₂ pick_f c.loop-k.invariant (c.kept_home.ensures ∙ ap (kept_home_f _ _ _) c.label_at-label.ensures)
    ∙ best-more _ _ _ _ _ c.loop-k.k
