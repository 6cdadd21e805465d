-- `records::list_records` meets its contract. The loop's invariant is `RecordsTo`: the records below c stand in the lists. Assumes nothing.
use mathlib.Core.List.{map}
use Rattle.models.specs.Records.{customer_of}
use Rattle.cut_stops.specs.Stops.{numbers}
use Rattle.cut_stops.proofs.Listed.{RecordsTo}
use Rattle.improve_base.proofs.records.list_records.Given as goal

abbrev pub invariant-loop-c : goal.invariant-loop-c
invariant-loop-c l = RecordsTo (map customer_of l.customer-items) (numbers l.codes l.figures) l.c
