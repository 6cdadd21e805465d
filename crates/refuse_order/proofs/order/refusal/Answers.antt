-- `order::refusal` meets its contract. Assumes nothing.
use mathlib.Core.Path.{refl}
use mathlib.Core.List.{[], ◌∷◌}
use Rattle.refuse_lists.proofs.Numbers.{by_tests}
use Rattle.refuse_order.proofs.Fitting.{fit-head, fit-customers, fit-table}
use Rattle.refuse_order.proofs.Deciding.{Given, Fitting, tests_on, refuses, images}
use Rattle.refuse_order.proofs.order.refusal.Goals as goal

pub returns : goal.returns
returns c =
    let a = c.args in
    let g : Given =
    record {
      kind = a.kind;
      head = a.head;
      array = a.customers;
      count = a.count;
      distances = a.distances.now;
      times = a.times.now;
      tour = a.tour.now;
      calls = a.calls.now;
      ends = a.ends.now;
      breaks = a.breaks.now;
      rooms = a.rooms.now;
    } in
    let told =
    by_tests (tests_on g) c.first_fit.result _ _ c.first_fit.ensures refl
    (λ i.
    c.too_short.ensures i
    ∷ c.tables_odd.ensures i
    ∷ c.out_of_range.ensures i
    ∷ c.repeats.ensures i
    ∷ c.pairs_fall.ensures i
    ∷ c.closures_differ.ensures i
    ∷ c.runs_uneven.ensures i
    ∷ c.lateness_pay.ensures i
    ∷ c.closed_legs.ensures i
    ∷ []) in
    let fitting : Fitting g = record {
      head = fit-head a.head _ c.well_formed.1.0;
      array = fit-customers a.customers _ c.well_formed.1.1.0.1.1;
      distances = fit-table a.distances.now _ (λ i k. c.type_inv.distances i);
      times = fit-table a.times.now _ (λ i k. c.type_inv.times i);
    } in
    record { refused = refuses g c.first_fit.result told; image = images g c.first_fit.result told fitting }
