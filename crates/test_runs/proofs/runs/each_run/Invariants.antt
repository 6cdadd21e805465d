-- `runs::each_run` meets its contract. Assumes nothing.
use Rattle.test_runs.specs.Runs.{given_in, run_words}
use Rattle.test_runs.proofs.Turns.{RunsTo}
use Rattle.test_runs.proofs.runs.each_run.Given as goal

abbrev pub invariant-loop-to : goal.invariant-loop-to
invariant-loop-to l = RunsTo l.recorded (run_words (given_in l.held l.distances l.times) l.topic) l.all l.ends l.at l.end l.from l.to-index
