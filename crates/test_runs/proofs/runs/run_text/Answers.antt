-- `runs::run_text` meets its contract. Assumes nothing.
use Rattle.test_runs.specs.Runs.{run_words}
use Rattle.test_runs.proofs.runs.run_text.Goals as goal

pub returns-in-Calls : goal.returns-in-Calls
unfolding run_words
returns-in-Calls c = rw (c.in-Calls.is, c.listed.ensures)
