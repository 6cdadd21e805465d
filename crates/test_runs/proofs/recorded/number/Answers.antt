-- `recorded::number` meets its contract. Assumes nothing.
use Rattle.test_runs.proofs.Front.{front}
use Rattle.test_runs.proofs.recorded.number.Goals as goal

pub returns : goal.returns
returns c = rw (front c.spaced-end.ensures.text) at c.word.ensures
