-- The tally is that of a run. The measure is how many answers may still come. Assumes nothing.
use Rattle.std.proofs.Common.{◌-◌}
use Rattle.test_records.specs.Tally.{InRun, most_answers}
use Rattle.test_replay.proofs.main.Given as goal

abbrev pub invariant-loop-tally : goal.invariant-loop-tally
invariant-loop-tally l = InRun l.tally

abbrev pub decreases-loop-tally : goal.decreases-loop-tally
decreases-loop-tally l = most_answers - l.tally.answers
