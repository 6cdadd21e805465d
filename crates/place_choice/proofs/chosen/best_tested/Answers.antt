-- `chosen::best_tested` meets its contract. The loop's invariant is `Along`: the runs from run k on are left. Assumes nothing.
-- ---- the (places_of (leg_f (given_in on.args.given (numbers on.args.codes.now on.args.figures.now) on.args.distances.now on.args.times.now)) (room_f (asked_f on.args.demands.now) (space_of on.args.given.capacity)) on.args.mover.call) the way
use Prim.Native.Nat.{ℕ}
use native.Mathlib.Omega.{arith}
use mathlib.Core.Path.{refl, sym, ap, ap₂, subst, ◌∙◌}
use mathlib.Core.Bool.{Bool}
use mathlib.Core.List.{List}
use Rattle.models.specs.Load.{space_of, Countable, up-to-more}
use Rattle.evaluation.specs.Tables.{asked_f}
use Rattle.improve_runs.specs.RunLists.{runs, runs_in, run_at}
use Rattle.place_choice.specs.declared.insertion.Spot.{Spot}
use Rattle.place_choice.specs.Loads.{room_f, load_in}
use Rattle.cut_stops.specs.Stops.{numbers}
use Rattle.place_choice.specs.Insertion.{given_in, leg_f, folded, offered, places_in, places_of, each_from, better_in, better_of}
use Rattle.place_choice.proofs.Folding.{along-first, along-last, Part, along-part}
use Rattle.place_choice.proofs.Loading.{room-is}
use Rattle.place_choice.proofs.Spots.{all-offered, Of, places-of, better-same}
use Rattle.place_choice.proofs.chosen.best_tested.Goals as goal
use Rattle.place_choice.proofs.chosen.best_tested.Goals.{In-loop-k}

abbrev part : (c : In-loop-k) →
    let l = c.loop-k in
    let s = c in
    Part (better_of (given_in s.args.given (numbers s.args.codes.now s.args.figures.now) s.args.distances.now s.args.times.now) s.args.mover (runs_in (runs s.args.calls.now s.args.ends.now s.args.many s.args.count))) c.nowhere-best.result (places_of (leg_f (given_in s.args.given (numbers s.args.codes.now s.args.figures.now) s.args.distances.now s.args.times.now)) (room_f (asked_f s.args.demands.now) (space_of s.args.given.capacity)) s.args.mover.call) (runs s.args.calls.now s.args.ends.now s.args.many s.args.count) s.requires.fact.0 l.best l.from l.k l.invariant.0 c.loop-k-test.true
part c =
    let l = c.loop-k in
    let s = c in
    along-part (better_of (given_in s.args.given (numbers s.args.codes.now s.args.figures.now) s.args.distances.now s.args.times.now) s.args.mover (runs_in (runs s.args.calls.now s.args.ends.now s.args.many s.args.count))) c.nowhere-best.result (places_of (leg_f (given_in s.args.given (numbers s.args.codes.now s.args.figures.now) s.args.distances.now s.args.times.now)) (room_f (asked_f s.args.demands.now) (space_of s.args.given.capacity)) s.args.mover.call) (runs s.args.calls.now s.args.ends.now s.args.many s.args.count) s.requires.fact.0 l.best l.from l.k l.invariant.0
    c.loop-k-test.true

pub loop-k-init : goal.loop-k-init
loop-k-init c = (along-first _ _ _ _, refl, refl)

pub has_room-fits-requires : goal.has_room-fits-requires
has_room-fits-requires c =
    let t = c in
    let s = t in
    let L = s.requires.fact.1 in
    subst Countable (sym c.load_at.ensures) (up-to-more 256 1000 (load_in s.args.loads.now t.loop-k.k) (omega arith) (L.few t.loop-k.k (part (goal.at.has_room-fits-requires t).In-loop-k).run_inside))

pub loop-k-preserved : goal.loop-k-preserved
loop-k-preserved c =
    let offered-in = c in
    let asked = offered-in in
    let t = asked in
    let l = t.loop-k in
    let s = t in
    let a = s.args in
    let T = (given_in s.args.given (numbers s.args.codes.now s.args.figures.now) s.args.distances.now s.args.times.now) in
    let q = part (goal.at.loop-k-preserved t).In-loop-k in
    let here = run_at (runs_in (runs s.args.calls.now s.args.ends.now s.args.many s.args.count)) l.k in
    let fits = asked.has_room-fits.ensures
    ∙ room-is (asked_f a.demands.now) (runs_in (runs s.args.calls.now s.args.ends.now s.args.many s.args.count)) 256 a.loads.now s.requires.fact.1 l.k q.run_inside _ _ (space_of a.given.capacity) a.mover.call
    asked.load_at.ensures t.demand_at-asked.ensures in
    let all = all-offered (Of a.mover l.k) ((room_f (asked_f s.args.demands.now) (space_of s.args.given.capacity)) a.mover.call here) (places_in (leg_f T) l.k a.mover.call here) (places-of a.mover l.k (leg_f T) a.mover.call here) in
    let best = offered-in.best_offered-best.ensures in (
      q.next _
          (best.result_value
          ∙ ap₂ (λ (b : Bool) (r : List ℕ). folded (better_in T a.mover r) l.best (offered b (places_in (leg_f T) l.k a.mover.call r))) fits q.run_is
          ∙ better-same a.mover l.k T (runs_in (runs s.args.calls.now s.args.ends.now s.args.many s.args.count)) l.best _ all),
      best.befores_len_2.0,
      best.befores_len_2.1,
    )

pub returns : goal.returns
returns c =
    let at = c in
    let l = at.loop-k in
    let s = at in
    let a = s.args in
    let f = better_of (given_in s.args.given (numbers s.args.codes.now s.args.figures.now) s.args.distances.now s.args.times.now) a.mover (runs_in (runs s.args.calls.now s.args.ends.now s.args.many s.args.count)) in
    along-last f _ (places_of (leg_f (given_in s.args.given (numbers s.args.codes.now s.args.figures.now) s.args.distances.now s.args.times.now)) (room_f (asked_f s.args.demands.now) (space_of s.args.given.capacity)) s.args.mover.call) (runs s.args.calls.now s.args.ends.now s.args.many s.args.count) s.requires.fact.0 l.best l.from l.k l.invariant.0 c.loop-k-test.false
    ∙ ap (λ (x : Spot). folded f x (each_from (places_of (leg_f (given_in s.args.given (numbers s.args.codes.now s.args.figures.now) s.args.distances.now s.args.times.now)) (room_f (asked_f s.args.demands.now) (space_of s.args.given.capacity)) s.args.mover.call) 0 (runs_in (runs s.args.calls.now s.args.ends.now s.args.many s.args.count)))) at.nowhere-best.ensures

pub offset_bounds-calls-from : goal.offset_bounds-calls-from
offset_bounds-calls-from c =
    let q = part (goal.at.offset_bounds-calls-from c).In-loop-k in
    omega (arith, q.rises, q.few-calls, c.requires.fact.0.calls-fit)

pub slice_bounds-best_offered-count : goal.slice_bounds-best_offered-count
slice_bounds-best_offered-count c = (part (goal.at.slice_bounds-best_offered-count c).In-loop-k).rises

pub slice_bounds-best_offered-start : goal.slice_bounds-best_offered-start
slice_bounds-best_offered-start c = (part (goal.at.slice_bounds-best_offered-start c).In-loop-k).rises

pub slice_bounds-best_offered-end : goal.slice_bounds-best_offered-end
slice_bounds-best_offered-end c = (part (goal.at.slice_bounds-best_offered-end c).In-loop-k).ends-inside
