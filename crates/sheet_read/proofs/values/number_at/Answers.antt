-- `values::number_at` meets its contract. Assumes nothing.
use mathlib.Core.Path.{ap}
use Rattle.whole.specs.Whole.{fl}
use Rattle.definitions.specs.Words.{Word}
use Rattle.sheet_read.proofs.values.number_at.Goals as goal

pub returns : goal.returns
unfolding fl
returns c = ap (λ (w : Word). fl w.value) c.word_at-w.ensures
