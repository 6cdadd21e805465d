-- `two_opt::turned_on` meets its contract. Assumes nothing.
use mathlib.Core.Path.{◌∙◌}
use Rattle.distance.specs.Lookup.{number_f}
use Rattle.two_opt.proofs.TurnedLegs.{none-turned, one-more-at}
use Rattle.two_opt.proofs.two_opt.turned_on.Goals as goal

pub returns-then-symmetric : goal.returns-then-symmetric
returns-then-symmetric c =
    let s = c in
    let a = s.args in
    s.requires.turned_value ∙ none-turned (number_f a.distances.now a.size) a.symmetric _ _ c.if-symmetric.true

pub returns : goal.returns
returns c =
    let tested = c in
    let s = tested in
    let a = s.args in
    let p = s.requires in
    one-more-at (number_f a.distances.now a.size) a.symmetric a.route.now a.i a.j a.turned _ _ tested.if-symmetric.false
    p.i_lt_j.0 p.i_lt_j.1 p.turned_value c.open_leg-back.ensures c.open_leg.ensures
