-- `evaluator::blank_visits` meets its contract. Assumes nothing.
use lib.ListN.{replicate}
use mathlib.Core.Path.{sym}
use Rattle.whole.proofs.Bits.{fl-zero}
use Rattle.visits.specs.Visiting.{load_in}
use Rattle.visits.proofs.evaluator.blank_visits.Goals as goal

pub returns : goal.returns
returns c = λ i.
    replicate 128 (record { customer_id = 0; arrival_time = sym fl-zero i; departure_time = sym fl-zero i; load_after = load_in (c.none.ensures i) })
