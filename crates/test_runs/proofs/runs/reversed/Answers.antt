-- `runs::reversed` meets its contract. Assumes nothing.
use Rattle.test_runs.specs.Runs.{run_words}
use Rattle.test_runs.proofs.Along.{headed}
use Rattle.test_runs.proofs.runs.reversed.Goals as goal

pub returns : goal.returns
unfolding run_words
returns c =
    let figured = c in
    let said = figured in
    let x = said in
    headed _ _ _ _ said.word-end.ensures (headed _ _ _ _ (rw x.improved-distance.ensures.distance at figured.figure-end.ensures) (rw x.improved-distance.ensures.calls at c.calls.ensures))
