-- `chosen::best_offered` meets its contract. Assumes nothing.
use Rattle.place_choice.specs.Insertion.{folded}
use Rattle.place_choice.proofs.chosen.best_offered.Goals as goal

pub returns : goal.returns
unfolding folded
returns c = record { result_value = rw c.if-fits.false; befores_len_2 = c.requires.befores_len }
