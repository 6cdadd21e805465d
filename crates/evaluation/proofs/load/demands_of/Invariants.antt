-- `load::demands_of` meets its contract. The loop's invariant: the demands of the first i customers are in. Assumes nothing.
use mathlib.Core.List.{map}
use Rattle.models.specs.Records.{customer_of}
use Rattle.evaluation.proofs.Demands.{AsksTo}
use Rattle.evaluation.proofs.load.demands_of.Given as goal

abbrev pub invariant-loop-i : goal.invariant-loop-i
invariant-loop-i l =
    AsksTo (map customer_of l.customer-items) l.demands l.i
