-- `chosen::best_from` meets its contract. The loop's invariant is `Choosing`: number pos is the next place that is wanted. Assumes nothing.
-- ---- the places on the way
use Prim.Native.Nat.{◌-◌}
use mathlib.Core.Path.{ap, ◌∙◌}
use mathlib.Core.Bool.{Bool, cond, ◌&&◌}
use lib.ListN.{length, take, drop}
use lib.Ieee as Ieee
use lib.Ieee.{Float, binary64}
use Rattle.models.specs.Limits.{within_f}
use Rattle.cut_stops.specs.Stops.{numbers}
use Rattle.latest.specs.Times.{DayOf}
use Rattle.latest.specs.Floats.{day_in, times_in, serves_f, listed_at, between_f}
use Rattle.place_choice.specs.declared.insertion.Spot.{Spot}
use Rattle.place_choice.specs.Insertion.{given_in}
use Rattle.place_choice.proofs.Folding.{in-last}
use Rattle.place_choice.proofs.Wanting.{on, spot, fits_by, choosing-first, choosing-more, left-on}
use Rattle.place_choice.proofs.chosen.best_from.Goals as goal

pub loop-pos-init : goal.loop-pos-init
loop-pos-init c =
    let s = c in
    let a = s.args in
    choosing-first (given_in s.args.given (numbers s.args.codes.now s.args.figures.now) s.args.distances.now s.args.times.now) a.mover a.best a.route.now a.k _ a.first c.set_out-left.ensures s.requires.fact_2.0

pub loop-pos-preserved : goal.loop-pos-preserved
loop-pos-preserved c =
    let chosen = c in
    let spotted = chosen in
    let t = spotted in
    let went = spotted in
    let at = t in
    let l = at.loop-pos in
    let s = t in
    let a = s.args in
    let T = (given_in s.args.given (numbers s.args.codes.now s.args.figures.now) s.args.distances.now s.args.times.now) in
    let run = a.route.now in
    let from = at in
    let day = from.day_of-day.ensures in
    let far = at.limited_distance-far.ensures in
    let left = left-on T a.mover a.best run a.k a.first l.found _ l.gone l.pos l.invariant t.loop-pos-test.true _ went.place_before-prev.ensures _
    (went.serve_all-left.ensures ∙ ap (λ (d : DayOf Float). serves_f T.tables d (times_in l.left) went.place_before-prev.result (take (l.pos - l.gone) (drop l.gone run))) day) in
    let due = s.requires.fact_2.1.are l.pos l.invariant.behind t.loop-pos-test.true in
    let is =
    chosen.better-found.ensures
    ∙ ap (λ (x : Spot). cond (within_f T.search.limits.max_distance (Ieee.add binary64 at.limited_distance-far.result x.cost)
    && between_f T.tables (day_in from.day_of-day.result) run x.pos a.mover.call (times_in went.serve_all-left.result) (listed_at a.befores.now a.afters.now l.pos)) x l.found)
    spotted.spot_at-spot.ensures
    ∙ ap (λ (b : Bool). cond b (spot T a.mover a.best run a.k l.pos) l.found)
    (fits_by T a.mover.call run l.pos (spot T a.mover a.best run a.k l.pos).cost _ far (day_in from.day_of-day.result) _ _ day left due) in
    choosing-more T a.mover a.best run a.k s.requires.fact.2 a.first l.found _ l.gone l.pos l.invariant t.loop-pos-test.true _ left _ is _ c.next_wanted-pos.ensures

pub returns : goal.returns
returns c =
    let at = c in
    let l = at.loop-pos in
    let s = at in
    let a = s.args in
    let T = (given_in s.args.given (numbers s.args.codes.now s.args.figures.now) s.args.distances.now s.args.times.now) in
    let run = a.route.now in
    in-last (on T a.mover a.best run a.k) a.best (spot T a.mover a.best run a.k) (length run) l.found l.pos l.invariant.places c.loop-pos-test.false
