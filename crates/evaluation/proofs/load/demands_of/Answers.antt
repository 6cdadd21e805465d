-- `load::demands_of` meets its contract. The loop's invariant: the demands of the first i customers are in. Assumes nothing.
use mathlib.Core.List.{map}
use Rattle.models.specs.Records.{customer_of}
use Rattle.evaluation.proofs.Demands.{asks-all}
use Rattle.evaluation.proofs.load.demands_of.Goals as goal

pub returns : goal.returns
returns c =
    let l = c.loop-i in
    (l.invariant.long, asks-all (map customer_of c.args.customers) l.demands l.i c.loop-i-test.false l.invariant)
