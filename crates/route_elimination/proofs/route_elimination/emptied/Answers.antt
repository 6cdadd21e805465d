-- `route_elimination::emptied` meets its contract. Assumes nothing.
-- ---- the places on the way: from the run's first and last call, from the test of what is saved, and from the placing
-- what is saved
-- the runs that are left
use Prim.Native.Nat.{ℕ, ◌+◌, ◌-◌, ◌≤◌}
use native.Mathlib.Omega.{arith}
use mathlib.Core.Path.{◌≡◌, sym, ap, ap₂, subst, ◌∙◌}
use mathlib.Core.Bool.{Bool, true, false≢true}
use mathlib.Core.List.{List}
use lib.ListN.{length, get_or, take, drop}
use lib.Ieee as Ieee
use lib.Ieee.{Float, binary64}
use Rattle.basics.specs.Options.{given}
use Rattle.cut_stops.specs.Stops.{numbers}
use Rattle.improve_runs.specs.RunLists.{Runs, runs, runs_in, Sound, run_at}
use Rattle.improve_runs.proofs.Changing.{run-bound, run_lent, end_is}
use Rattle.place_choice.specs.Insertion.{given_in}
use Rattle.route_elimination.specs.Placing.{placed_of}
use Rattle.route_elimination.specs.Elimination.{part_at, finite_f}
use Rattle.route_elimination.proofs.Emptying.{saved-is, moved_f, moved-is, not_finite, found, answered-runs, answered-sound}
use Rattle.route_elimination.proofs.route_elimination.emptied.Goals as goal
use Rattle.route_elimination.proofs.route_elimination.emptied.Goals.{After-is_finite, After-place_all-placed, After-place_before-from}

abbrev bound : (c : After-place_before-from) →
    let a = c.args in
    let f = c.place_before-from.result in
    let t = get_or a.ends.now a.r 0 in
    (f ≤ t) × (t ≤ a.many) × (t - f ≡ length (run_at (runs_in (runs c.args.calls.now c.args.ends.now c.args.many c.args.count)) a.r))
bound c =
    let s = c in
    let a = s.args in
    run-bound (runs s.args.calls.now s.args.ends.now s.args.many s.args.count) a.r c.place_before-from.result (get_or a.ends.now a.r 0) s.requires.sound c.place_before-from.ensures (end_is a.ends.now a.r)

abbrev run : (c : After-place_before-from) →
    let a = c.args in
    let f = c.place_before-from.result in
    take (get_or a.ends.now a.r 0 - f) (drop f a.calls.now) ≡ run_at (runs_in (runs c.args.calls.now c.args.ends.now c.args.many c.args.count)) a.r
run c =
    let s = c in
    let a = s.args in
    run_lent (runs s.args.calls.now s.args.ends.now s.args.many s.args.count) a.r c.place_before-from.result (get_or a.ends.now a.r 0) s.requires.sound c.place_before-from.ensures (end_is a.ends.now a.r)

abbrev finite : (c : After-place_all-placed) → finite_f (Ieee.add binary64 c.route_distance.result c.args.given.fixed) ≡ true
finite c =
    let w = c in
    let t = w in
    sym t.is_finite.ensures ∙ w.if-not-is_finite.false

moved : (c : After-place_all-placed) →
    let t = c in
    let s = t in
    placed_of c.place_all-placed.result (runs_in (let w = c in let k = w in let a = k.args in let f = k.place_before-from.result in runs c.place_all-placed.new.calls c.place_all-placed.new.ends (w.without_run-held.result + length (take (get_or a.ends.now a.r 0 - f) (drop f a.calls.now))) (a.count - 1))) ≡ moved_f (given_in s.args.given (numbers s.args.codes.now s.args.figures.now) s.args.distances.now s.args.times.now) (Ieee.add binary64 t.route_distance.result t.args.given.fixed) (part_at (runs_in (runs s.args.calls.now s.args.ends.now s.args.many s.args.count)) s.args.r).run (part_at (runs_in (runs s.args.calls.now s.args.ends.now s.args.many s.args.count)) s.args.r).rest
moved c =
    let w = c in
    let t = w in
    let s = t in
    c.place_all-placed.ensures.is ∙ moved-is (given_in s.args.given (numbers s.args.codes.now s.args.figures.now) s.args.distances.now s.args.times.now) (Ieee.add binary64 t.route_distance.result t.args.given.fixed) _ _ (let s = t in let a = s.args in run_lent (runs s.args.calls.now s.args.ends.now s.args.many s.args.count) a.r t.place_before-from.result (get_or a.ends.now a.r 0) s.requires.sound t.place_before-from.ensures (end_is a.ends.now a.r)) _ _ w.without_run-held.ensures.is

all_held : (c : After-place_all-placed) →
    let s = c in
    (let w = c in let k = w in let a = k.args in let f = k.place_before-from.result in runs c.place_all-placed.new.calls c.place_all-placed.new.ends (w.without_run-held.result + length (take (get_or a.ends.now a.r 0 - f) (drop f a.calls.now))) (a.count - 1)) ≡ runs c.place_all-placed.new.calls c.place_all-placed.new.ends s.args.many (s.args.count - 1)
all_held c =
    let w = c in
    let k = w in
    let s = k in
    let fewer = w.without_run-held.ensures.fewer in
    ap (λ (n : ℕ). runs c.place_all-placed.new.calls c.place_all-placed.new.ends n (s.args.count - 1)) (ap (λ (r : List ℕ). w.without_run-held.result + length r) (let s = k in let a = s.args in run_lent (runs s.args.calls.now s.args.ends.now s.args.many s.args.count) a.r k.place_before-from.result (get_or a.ends.now a.r 0) s.requires.sound k.place_before-from.ensures (end_is a.ends.now a.r)) ∙ fewer)

pub returns-then-not-is_finite : goal.returns-then-not-is_finite
returns-then-not-is_finite c =
    let t = c in
    let s = t in
    let endless = sym t.is_finite.ensures ∙ c.if-not-is_finite.true in
    record { is = not_finite (given_in s.args.given (numbers s.args.codes.now s.args.figures.now) s.args.distances.now s.args.times.now) (part_at (runs_in (runs s.args.calls.now s.args.ends.now s.args.many s.args.count)) s.args.r) (Ieee.add binary64 t.route_distance.result t.args.given.fixed) (saved-is (given_in t.args.given (numbers t.args.codes.now t.args.figures.now) t.args.distances.now t.args.times.now) _ _ (run (goal.at.returns-then-not-is_finite t).After-place_before-from) _ t.route_distance.ensures) endless; sound = λ e. absurd (false≢true e) }

pub place_all-placed-requires : goal.place_all-placed-requires
place_all-placed-requires c =
    let w = c in
    let t = w in
    let k = t in
    let s = k in
    let fewer = w.without_run-held.ensures.fewer in
    record { sound = (w.without_run-held.ensures.sound, omega (arith, ap length (run (goal.at.place_all-placed-requires k).After-place_before-from), fewer, s.requires.sound.0.calls-fit)); fact = s.requires.fact; all_open = s.requires.all_open }

pub returns : goal.returns
returns c =
    let placed = c in
    let t = placed in
    let s = t in
    let p = placed.place_all-placed.result in
    let all = all_held (goal.at.returns placed).After-place_all-placed in
    let is_all = c.all_placed.ensures in
    record {
      is = ap₂ (λ (b : Bool) (r : Runs). given b (runs_in r)) is_all (sym all)
          ∙ answered-runs p (runs_in (let w = placed in let k = w in let a = k.args in let f = k.place_before-from.result in runs placed.place_all-placed.new.calls placed.place_all-placed.new.ends (w.without_run-held.result + length (take (get_or a.ends.now a.r 0 - f) (drop f a.calls.now))) (a.count - 1))) ∙ found (given_in s.args.given (numbers s.args.codes.now s.args.figures.now) s.args.distances.now s.args.times.now) (part_at (runs_in (runs s.args.calls.now s.args.ends.now s.args.many s.args.count)) s.args.r) (Ieee.add binary64 t.route_distance.result t.args.given.fixed) (saved-is (given_in t.args.given (numbers t.args.codes.now t.args.figures.now) t.args.distances.now t.args.times.now) _ _ (run (goal.at.returns t).After-place_before-from) _ t.route_distance.ensures) (finite (goal.at.returns placed).After-place_all-placed) _ (moved (goal.at.returns placed).After-place_all-placed);
      sound = λ f. subst Sound all (answered-sound (Sound (let w = placed in let k = w in let a = k.args in let f = k.place_before-from.result in runs placed.place_all-placed.new.calls placed.place_all-placed.new.ends (w.without_run-held.result + length (take (get_or a.ends.now a.r 0 - f) (drop f a.calls.now))) (a.count - 1))) p (runs_in (let w = placed in let k = w in let a = k.args in let f = k.place_before-from.result in runs placed.place_all-placed.new.calls placed.place_all-placed.new.ends (w.without_run-held.result + length (take (get_or a.ends.now a.r 0 - f) (drop f a.calls.now))) (a.count - 1))) placed.place_all-placed.ensures.sound (sym is_all ∙ f));
    }

pub offset_bounds-calls-from : goal.offset_bounds-calls-from
offset_bounds-calls-from c =
    let b = bound (goal.at.offset_bounds-calls-from c).After-place_before-from in
    omega (arith, b.0, b.1, c.requires.sound.0.calls-fit)

pub slice_bounds-run-count : goal.slice_bounds-run-count
slice_bounds-run-count c = (bound (goal.at.slice_bounds-run-count c).After-place_before-from).0

pub slice_bounds-run-start : goal.slice_bounds-run-start
slice_bounds-run-start c = (bound (goal.at.slice_bounds-run-start c).After-place_before-from).0

pub slice_bounds-run-end : goal.slice_bounds-run-end
slice_bounds-run-end c =
    let b = bound (goal.at.slice_bounds-run-end c).After-place_before-from in
    let h : get_or c.args.ends.now c.args.r 0 ≤ length c.args.calls.now = omega (arith, b.1, c.requires.sound.0.calls-fit, c.requires.sound.0.calls-long) in
    h
