-- `runs::runs_text` meets its contract. The loop's invariant: the lines of the first k runs are put. Assumes nothing.
use Rattle.models.specs.Load.{space_of}
use Rattle.evaluation.specs.Records.{lent, limits_of}
use Rattle.times_text.proofs.RunTurns.{RunsTo}
use Rattle.times_text.proofs.runs.runs_text.Given as goal

abbrev pub invariant-loop-k : goal.invariant-loop-k
invariant-loop-k l =
    RunsTo (record {
      tables = lent l.customers l.distances l.times l.head.places;
      capacity = space_of l.head.capacity;
      limits = limits_of l.head.limits;
      calls = l.calls;
      ends = l.ends;
      places = l.places;
    }) l.initial.out l.out l.end l.from l.k
