-- `chosen::best_in` meets its contract. Assumes nothing.
use Rattle.cut_stops.specs.Stops.{numbers}
use Rattle.place_choice.specs.Insertion.{given_in}
use Rattle.place_choice.proofs.Wanting.{none-wanted}
use Rattle.place_choice.proofs.chosen.best_in.Goals as goal

pub returns-then-route-first : goal.returns-then-route-first
returns-then-route-first c =
    let looked = c in
    let s = looked in
    let a = s.args in
    record { result_value = none-wanted (given_in s.args.given (numbers s.args.codes.now s.args.figures.now) s.args.distances.now s.args.times.now) a.mover a.best a.route.now a.k _ looked.next_wanted-first.ensures c.if-route-first.true; befores_len_2 = s.requires.befores_len }
