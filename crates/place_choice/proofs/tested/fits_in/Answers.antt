-- `tested::fits_in` meets its contract. Assumes nothing.
use mathlib.Core.Path.{sym, ap, ap₂, ◌∙◌}
use lib.ListN.{take, drop}
use lib.Ieee.{Float}
use Rattle.basics.proofs.TestLaws.{not-true, not-false}
use Rattle.cut_stops.specs.Stops.{numbers}
use Rattle.latest.specs.Times.{DayOf, TimesOf}
use Rattle.latest.specs.Floats.{day_in, serves_f, bounds_f}
use Rattle.place_choice.specs.Insertion.{given_in}
use Rattle.place_choice.proofs.Wanting.{far-refused, fits-short}
use Rattle.place_choice.proofs.tested.fits_in.Goals as goal

pub returns-then-is_too_far : goal.returns-then-is_too_far
returns-then-is_too_far c =
    let asked = c in
    let measured = asked in
    let s = measured in
    let a = s.args in
    far-refused (given_in s.args.given (numbers s.args.codes.now s.args.figures.now) s.args.distances.now s.args.times.now) a.c a.route.now a.spot.pos a.spot.cost _ measured.limited_distance-far.ensures (not-true _ (sym asked.is_too_far.ensures ∙ c.if-is_too_far.true))

pub returns : goal.returns
returns c =
    let bounded = c in
    let served = bounded in
    let out = served in
    let dated = out in
    let near = dated in
    let asked = near in
    let measured = asked in
    let s = measured in
    let a = s.args in
    let T = (given_in s.args.given (numbers s.args.codes.now s.args.figures.now) s.args.distances.now s.args.times.now) in
    let day = dated.day_of-day.ensures in
    fits-short T a.c a.route.now a.spot.pos a.spot.cost _ measured.limited_distance-far.ensures (day_in dated.day_of-day.result) _ _ day
    (served.serve_all-left.ensures ∙ ap₂ (λ (d : DayOf Float) (t : TimesOf Float). serves_f T.tables d t 0 (take a.spot.pos a.route.now)) day out.set_out.ensures)
    (bounded.bounds_from-due.ensures ∙ ap (λ (d : DayOf Float). bounds_f T.tables d (drop a.spot.pos a.route.now)) day)
    (not-false _ (sym asked.is_too_far.ensures ∙ near.if-is_too_far.false)) _ c.fits_between.ensures
