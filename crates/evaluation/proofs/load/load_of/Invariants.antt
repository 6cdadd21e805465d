-- `load::load_of` meets its contract. The loop's invariant: the load so far and that of the calls left is the whole load. Assumes nothing.
use mathlib.Core.Path.{◌≡◌}
use lib.ListN.{drop}
use Rattle.definitions.specs.Load.{plus}
use Rattle.models.specs.Load.{load_of, UpTo}
use Rattle.evaluation.specs.Tables.{load_f}
use Rattle.evaluation.proofs.load.load_of.Given as goal

abbrev pub invariant-loop-cid : goal.invariant-loop-cid
invariant-loop-cid l =
    UpTo l.cid-index (load_of l.load) × (plus (load_of l.load) (load_f l.demands (drop l.cid-index l.calls)) ≡ load_f l.demands l.calls)
