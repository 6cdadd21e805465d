-- `sheet::out_of_range` meets its contract. Assumes nothing.
-- what the function looks at
use mathlib.Core.Path.{sym, ◌∙◌}
use contract.Lifetimes.{Lfts}
use Rattle.refuse_order.proofs.Ranging.{Seen, head-bad, depot-bad, customer-bad, table-bad, lists-left}
use Rattle.refuse_order.proofs.sheet.out_of_range.Reads as reads
use Rattle.refuse_order.proofs.sheet.out_of_range.Lts as lts
use Rattle.refuse_order.proofs.sheet.out_of_range.Goals as goal

abbrev seen : {q : lts.Claims} {κs : Lfts 4} → lts.Args q reads.Pre reads.Post κs → Seen
seen a =
    record {
      head = a.head;
      array = a.customers;
      distances = a.distances.now;
      times = a.times.now;
      tour = a.tour.now;
      calls = a.calls.now;
    }

pub returns-then-bad_head : goal.returns-then-bad_head
returns-then-bad_head c =
    let head = c in
    let s = head in
    head-bad (seen s.args) (sym head.bad_head.ensures ∙ c.if-bad_head.true)

pub returns-then-bad_depot : goal.returns-then-bad_depot
returns-then-bad_depot c =
    let depot = c in
    let if1 = depot in
    let head = if1 in
    let s = head in
    depot-bad (seen s.args) (sym head.bad_head.ensures ∙ if1.if-bad_head.false) _ s.well_formed.1.0.1.0.1
    (sym depot.bad_depot.ensures ∙ c.if-bad_depot.true)

pub returns-then-any_applies : goal.returns-then-any_applies
returns-then-any_applies c =
    let customers = c in
    let if2 = customers in
    let depot = if2 in
    let if1 = depot in
    let head = if1 in
    let s = head in
    customer-bad (seen s.args) (sym head.bad_head.ensures ∙ if1.if-bad_head.false) _ s.well_formed.1.0.1.0.1
    (sym depot.bad_depot.ensures ∙ if2.if-bad_depot.false)
    (sym customers.any_applies.ensures ∙ c.if-any_applies.true)

pub returns-then-bad_tables : goal.returns-then-bad_tables
returns-then-bad_tables c =
    let tables = c in
    let if3 = tables in
    let customers = if3 in
    let if2 = customers in
    let depot = if2 in
    let if1 = depot in
    let head = if1 in
    let s = head in
    table-bad (seen s.args) (sym head.bad_head.ensures ∙ if1.if-bad_head.false) _ s.well_formed.1.0.1.0.1
    (sym depot.bad_depot.ensures ∙ if2.if-bad_depot.false)
    (sym customers.any_applies.ensures ∙ if3.if-any_applies.false)
    (sym tables.bad_tables.ensures ∙ c.if-bad_tables.true)

pub returns : goal.returns
returns c =
    let tour = c in
    let if4 = tour in
    let tables = if4 in
    let if3 = tables in
    let customers = if3 in
    let if2 = customers in
    let depot = if2 in
    let if1 = depot in
    let head = if1 in
    let s = head in
    rw (tour.bad_tour.ensures, c.bad_run_list.ensures)
    (lists-left (seen s.args) (sym head.bad_head.ensures ∙ if1.if-bad_head.false) _ s.well_formed.1.0.1.0.1
    (sym depot.bad_depot.ensures ∙ if2.if-bad_depot.false)
    (sym customers.any_applies.ensures ∙ if3.if-any_applies.false)
    (sym tables.bad_tables.ensures ∙ if4.if-bad_tables.false))
