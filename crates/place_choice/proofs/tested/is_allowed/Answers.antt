-- `tested::is_allowed` meets its contract. Assumes nothing.
use Prim.Native.Nat.{ℕ, ◌-◌, ◌<◌, ◌≤◌}
use native.Mathlib.Omega.{arith}
use mathlib.Core.Path.{◌≡◌, ap, ◌∙◌}
use mathlib.Core.Bool.{true, false, true≢false}
use mathlib.Core.List.{List}
use lib.ListN.{length, get_or, take, drop}
use Rattle.basics.proofs.TestLaws.{not-true, not-false}
use Rattle.cut_stops.specs.Stops.{numbers}
use Rattle.improve_runs.specs.RunLists.{runs, runs_in, run_at}
use Rattle.improve_runs.proofs.Holding.{held}
use Rattle.improve_runs.proofs.Changing.{run-bound, run_lent, end_is}
use Rattle.place_choice.specs.declared.insertion.Spot.{Spot}
use Rattle.place_choice.specs.Insertion.{given_in, GivenF, fits_in_f, allowed_f}
use Rattle.place_choice.proofs.Wanting.{allowed-asked}
use Rattle.place_choice.proofs.tested.is_allowed.Goals as goal
use Rattle.place_choice.proofs.tested.is_allowed.Goals.{After-place_before-from}

few : (c : After-place_before-from) → c.args.spot.run < c.args.count
few c = let s = c in omega (arith, s.requires.fact.1.run_inside, (held (runs s.args.calls.now s.args.ends.now s.args.many s.args.count) s.requires.fact.0).count-is)

abbrev bound : (c : After-place_before-from) →
    let a = c.args in
    let to = get_or a.ends.now a.spot.run 0 in
    (c.place_before-from.result ≤ to) × (to ≤ a.many) × (to - c.place_before-from.result ≡ length (run_at (runs_in (runs c.args.calls.now c.args.ends.now c.args.many c.args.count)) a.spot.run))
bound c =
    let s = c in
    let a = s.args in
    run-bound (runs s.args.calls.now s.args.ends.now s.args.many s.args.count) a.spot.run c.place_before-from.result (get_or a.ends.now a.spot.run 0) (s.requires.fact.0, few c) c.place_before-from.ensures (end_is a.ends.now a.spot.run)

abbrev run : (c : After-place_before-from) →
    let a = c.args in
    take (get_or a.ends.now a.spot.run 0 - c.place_before-from.result) (drop c.place_before-from.result a.calls.now) ≡ run_at (runs_in (runs c.args.calls.now c.args.ends.now c.args.many c.args.count)) a.spot.run
run c =
    let s = c in
    let a = s.args in
    run_lent (runs s.args.calls.now s.args.ends.now s.args.many s.args.count) a.spot.run c.place_before-from.result (get_or a.ends.now a.spot.run 0) (s.requires.fact.0, few c) c.place_before-from.ensures (end_is a.ends.now a.spot.run)

not-asked : (G : GivenF) (c : ℕ) (run : List ℕ) (x : Spot) → G.search.constrained ≡ false → true ≡ allowed_f G c run x
unfolding allowed_f
not-asked G c run x e = rw e

pub returns-then-not-search : goal.returns-then-not-search
returns-then-not-search c =
    let s = c in
    let e = not-true s.args.given.search.constrained c.if-not-search.true in
    record { result_value = not-asked (given_in s.args.given (numbers s.args.codes.now s.args.figures.now) s.args.distances.now s.args.times.now) _ _ _ e; constrained_value = λ f. absurd (true≢false f) }

pub bounds-ends-k : goal.bounds-ends-k
bounds-ends-k c =
    let s = c in
    omega (arith, few (goal.at.bounds-ends-k c).After-place_before-from, s.requires.fact.0.runs_fit, s.requires.fact.0.ends-long)

pub fits_in-requires : goal.fits_in-requires
fits_in-requires c =
    let k = c in
    let s = k in
    let many = ap length (run (goal.at.fits_in-requires k).After-place_before-from) in
    record { fact = (s.requires.fact.2, omega (arith, many, (bound (goal.at.fits_in-requires k).After-place_before-from).1, (bound (goal.at.fits_in-requires k).After-place_before-from).2, s.requires.fact.0.calls-fit), omega (arith, many, s.requires.fact.1.pos-inside)); all_open = s.requires.all_open }

pub returns : goal.returns
returns c =
    let k = c in
    let s = k in
    let a = s.args in
    let T = (given_in s.args.given (numbers s.args.codes.now s.args.figures.now) s.args.distances.now s.args.times.now) in
    let e = not-false a.given.search.constrained k.if-not-search.false in
    let same = ap (λ (r : List ℕ). fits_in_f T a.c r a.spot.pos a.spot.cost) (run (goal.at.returns k).After-place_before-from) in
    record { result_value = c.fits_in.ensures ∙ same ∙ allowed-asked T e a.c (run_at (runs_in (runs s.args.calls.now s.args.ends.now s.args.many s.args.count)) a.spot.run) a.spot; constrained_value = λ f. e }

pub offset_bounds-ends-k : goal.offset_bounds-ends-k
offset_bounds-ends-k c = omega (arith, few (goal.at.offset_bounds-ends-k c).After-place_before-from, c.requires.fact.0.runs_fit)

pub offset_bounds-calls-from : goal.offset_bounds-calls-from
offset_bounds-calls-from c =
    let b = bound (goal.at.offset_bounds-calls-from c).After-place_before-from in
    omega (arith, b.0, b.1, c.requires.fact.0.calls-fit)

pub slice_bounds-fits_in-count : goal.slice_bounds-fits_in-count
slice_bounds-fits_in-count c = (bound (goal.at.slice_bounds-fits_in-count c).After-place_before-from).0

pub slice_bounds-fits_in-start : goal.slice_bounds-fits_in-start
slice_bounds-fits_in-start c = (bound (goal.at.slice_bounds-fits_in-start c).After-place_before-from).0

pub slice_bounds-fits_in-end : goal.slice_bounds-fits_in-end
slice_bounds-fits_in-end c =
    let b = bound (goal.at.slice_bounds-fits_in-end c).After-place_before-from in
    let h : get_or c.args.ends.now c.args.spot.run 0 ≤ length c.args.calls.now = omega (arith, b.1, c.requires.fact.0.calls-fit, c.requires.fact.0.calls-long) in
    h
