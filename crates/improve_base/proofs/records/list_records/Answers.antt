-- `records::list_records` meets its contract. The loop's invariant is `RecordsTo`: the records below c stand in the lists. Assumes nothing.
use native.Mathlib.Omega.{arith}
use mathlib.Core.Path.{◌∙◌}
use mathlib.Core.List.{map}
use lib.ListN.{length-map}
use Rattle.models.specs.Records.{customer_of}
use Rattle.evaluation.specs.Tables.{blank}
use Rattle.evaluation.proofs.Reading.{get_d_of}
use Rattle.cut_stops.specs.Stops.{numbers}
use Rattle.cut_stops.proofs.Places.{record-put}
use Rattle.cut_stops.proofs.Listed.{records-more, records-all}
use Rattle.improve_base.proofs.records.list_records.Goals as goal

pub loop-c-preserved : goal.loop-c-preserved
loop-c-preserved c =
    let x = numbers c.loop-c.codes c.loop-c.figures in
    records-more (map customer_of c.args.customers) x _ c.loop-c.c _ c.loop-c.invariant
    (record-put x _ c.loop-c.c _ c.loop-c.invariant.long (omega (arith, c.well_formed.0.1.0.1)) c.put_customer.ensures.codes_after c.put_customer.ensures.figures_after)
    (get_d_of customer_of c.args.customers c.loop-c.c _ blank (omega (arith, c.well_formed.0.1.0.1)))

pub returns : goal.returns
returns c =
    let customers = c.args.customers in
    (c.loop-c.invariant.long, records-all (map customer_of customers) _ _ (length-map customers customer_of ∙ c.well_formed.0.1.0.1) c.loop-c.invariant (omega (arith, c.well_formed.0.1.0.1)))
