-- `hours::hours_at` meets its contract. Assumes nothing.
use Rattle.latest.specs.Floats.{floats, hours_f}
use Rattle.latest.specs.Times.{hours_of}
use Rattle.cut_stops.proofs.Listed.{listed-record}
use Rattle.cut_stops.specs.Stops.{numbers}
use lib.Ieee.{Float}
use Rattle.evaluation.specs.Tables.{record_f}
use Rattle.definitions.specs.Sheet.{CustomerOf}
use mathlib.Core.List.{[]}
use mathlib.Core.Path.{ap, ◌∙◌}
use Rattle.latest.proofs.hours.hours_at.Goals as goal

pub returns : goal.returns
unfolding hours_f record_f
returns c =
    let read = c in
    let indexed = read in
    let a = indexed.args in
    let index = indexed.record_index-index.ensures in
    c.hours_of.ensures
    ∙ ap (λ (x : CustomerOf Float). hours_of floats x)
    (read.customer_at.ensures ∙ listed-record (numbers a.codes.now a.figures.now) [] [] 0 a.cid _ index.0 index.1)
