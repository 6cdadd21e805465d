use Prim.Native.Nat.{ℕ, min}
use mathlib.Core.Path.{ap, ◌∙◌}
use lib.ListN.{length, take}
use Rattle.definitions.specs.Room.{written}
use Rattle.call_reader.specs.Reading.{records_in}
use Rattle.call_reader.proofs.ReadAnswers.{records-left}
use Rattle.planner.specs.Reading.{read_output}
use Rattle.planner.proofs.ReadKept.{kept}
use Rattle.planner.proofs.reading.read_sheet.Goals as goal

pub returns : goal.returns
returns c =
    let a = c.args in
    let said = c.read_sheet-read.ensures in
    let all = c.customers_of-all.result in
    let old = a.customers.now in
    let customers-left =
    c.scattered.ensures
    ∙ ap (λ (m : ℕ). written (take (min m (length old)) all) old) (c.records_of-n.ensures ∙ ap records_in said.answer)
    ∙ records-left a.bytes.now all c.customers_of-all.ensures old (length a.distances.now) (length a.times.now) (length a.tour.now) in
    kept a.bytes.now (read_output old a.distances.now a.times.now a.tour.now) said.answer
    (λ i. read_output (customers-left i) (said.distances-left i) (said.times-left i) (said.tour-left i))
