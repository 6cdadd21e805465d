-- `least_row::least_row` meets its contract. The loop's invariant is `LeastAlong` for whatever tables the lists are worked out from: after m calls of the row, load, way and labels are those of these
-- calls, and the cells up to i + m are as the row leaves them. Assumes nothing.
use Prim.Native.Nat.{ℕ, ◌+◌, ◌-◌, ◌<◌, ◌≤◌}
use native.Mathlib.Numerals.{add-one}
use native.Mathlib.Omega.{arith}
use mathlib.Core.Path.{◌≡◌, refl, sym, ap, subst, ◌∙◌}
use Rattle.std.specs.Prelude.{None, Some}
use mathlib.Core.List.{List}
use lib.ListN.{length, get_or, take, drop, length-drop}
use lib.Dec.{eqb}
use lib.Ieee.{Float, nan}
use borrow.Author.Rules.{rules}
use Rattle.cut_theory.specs.Tab.{most_cut}
use Rattle.definitions.specs.Load.{no_load}
use Rattle.definitions.specs.Sheet.{BreakOf}
use Rattle.models.specs.declared.placement.Placement.TheVariants.{Least}
use Rattle.models.specs.Records.{break_of}
use Rattle.models.specs.Load.{load_of, UpTo, none-up-to, up-to-more}
use Rattle.whole.proofs.Bits.{fl-zero}
use Rattle.distance.specs.Lookup.{road_f}
use Rattle.evaluation.specs.Records.{Tables}
use Rattle.cut_labels.specs.Labels.{labels_in}
use Rattle.cut_stops.specs.Stops.{stop_of, stop_at, StopsOf, LegsLong, LegsAre}
use Rattle.cut_table.specs.Table.{Table, table}
use Rattle.cut_runs.specs.Stretch.{joined_f, leg_to}
use Rattle.cut_runs.specs.Runs.{Instance, over_by, tariff, RowLists, row_lists, Rowed}
use Rattle.cut_runs.proofs.Along.{Row, row_from, Along, setout}
use Rattle.cut_runs.proofs.Ends.{run_out, overloaded, cut_off}
use Rattle.cut_runs.proofs.Calls.{RunIs, run_is, call_below, way-is, CallIs, call-is, leg-closed}
use Rattle.cut_runs.proofs.Calling.{Called}
use Rattle.cut_row_least.proofs.LeastAlong.{least-setout, none_left, unplaced, endless, put}
use Rattle.cut_row_least.proofs.least_row.least_row.Goals as goal
use Rattle.cut_row_least.proofs.least_row.least_row.Goals.{After-carry-before, After-none-load, After-stop_at-stop, In-Some-best_home, In-loop-m}

-- the loop is entered
module _ (n : After-none-load) where
  abbrev row_at : Float → Float → Row
  row_at base ahead = let a = n.args in row_from (drop a.i a.held.now) a.i (table a.cost.now a.dist.now a.pred.now) base ahead

  abbrev pause : BreakOf Float
  pause = break_of n.args.rest

  abbrev over : Tables → Instance
  over t = over_by t n.args.terms Least (Some pause)

-- the next run
module _ (r : In-loop-m) where
  ahead-run : r.args.i + r.loop-m.m < length r.args.held.now
  ahead-run = omega (arith, r.loop-m-test.true)

  is-run : RunIs r.args.held.now r.args.i r.loop-m.m (take (r.args.i + r.loop-m.m + 1 - r.args.i) (drop r.args.i r.args.held.now))
  is-run = run_is _ _ _ ahead-run

-- its last call
module _ (p : After-stop_at-stop) where
  -- the number of the row's first call, and how many calls of the row come before this one
  abbrev i : ℕ
  i = p.args.i

  abbrev m : ℕ
  m = p.loop-m.m

  abbrev x : RowLists
  x = let a = p.args in row_lists a.held.now a.legs.now a.time_legs.now a.codes.now a.figures.now

  abbrev run : List ℕ
  run = take (i + m + 1 - i) (drop i x.held)

  ahead : i + m < length x.held
  ahead = omega (arith, p.loop-m-test.true)

  few : (length x.held ≤ most_cut) × LegsLong x.legs
  few = (p.requires.few, p.requires.legs-long)

  inside : m < length (drop i x.held)
  inside = simp length-drop (omega (arith, ahead))

  short : i + length (drop i x.held) ≤ most_cut
  short = simp length-drop (omega (arith, few.0, p.requires.inside))

  next-cell : i + m + 1 ≡ i + (m + 1)
  next-cell = omega arith

  called : (t : Tables) → StopsOf t x.held x.stops → LegsAre t x.held x.legs
      → (leg travel : Float) → leg ≡ leg_to run (stop_of p.stop_at-stop.result).out (get_or x.legs.distances (i + m) nan)
      → travel ≡ leg_to run (stop_of p.stop_at-stop.result).time_out (get_or x.legs.times (i + m) nan)
      → CallIs t (drop i x.held) m (stop_of p.stop_at-stop.result) leg travel
  called t W L leg travel el et =
      call-is t x W L p.requires.below (run_is _ _ _ ahead) ahead
      (stop_of p.stop_at-stop.result) leg travel (p.stop_at-stop.ensures ∙ ap (stop_at x.stops) p.last_call.ensures) el et

-- the labels serve it
module _ (k : After-carry-before) where
  leg-open : road_f k.leg_to.result ≡ Some k.in-Some.leg
  leg-open = let e : k.road_of.result ≡ Some k.in-Some.leg = k.in-Some.is in sym k.road_of.ensures ∙ e

  far-way : k.way_to-gone.result ≡ joined_f k.loop-m.gone k.in-Some.leg (eqb k.loop-m.m 0)
  far-way = let ahead : k.args.i + k.loop-m.m < length k.args.held.now = omega (arith, k.loop-m-test.true) in way-is (run_is _ _ _ ahead) _ _ _ k.way_to-gone.ensures

-- the call, its load and the way with it
going : (k : After-carry-before) (t : Tables) → let a = k.args in let l = k.loop-m in let x = row_lists a.held.now a.legs.now a.time_legs.now a.codes.now a.figures.now in
    let over = over_by t a.terms Least (Some (break_of a.rest)) in let row = row_from (drop a.i a.held.now) a.i (table a.cost.now a.dist.now a.pred.now) in
    CallIs t (drop a.i x.held) l.m (stop_of k.stop_at-stop.result) k.leg_to.result k.leg_to-travel.result
    → l.m < length (drop a.i x.held) → a.i + length (drop a.i x.held) ≤ most_cut
    → (base ahead' : Float) (new : Table)
    → Along (tariff over) (row base ahead') new (load_of l.load) l.gone l.m
    → Called over (row base ahead') new (load_of l.load) l.gone l.m (stop_of k.stop_at-stop.result) k.leg_to-travel.result (load_of k.plus-load.result) k.way_to-gone.result
going k t is-call within most base ahead' new A =
    record {
      along = A;
      listed = k.leg_to.result;
      leg = k.in-Some.leg;
      is-call = is-call;
      inside = within;
      short = most;
      is-load = k.plus-load.ensures.result_value;
      fits = sym k.fits.ensures.value ∙ k.if-not-fits.false;
      is-leg = leg-open k;
      is-gone = far-way k;
    }

-- the best way home
at_home : (g : In-Some-best_home) → g.best_home.result ≡ Some g.in-Some-best_home.done
at_home g = let e : g.best_home.result ≡ Some g.in-Some-best_home.done = g.in-Some-best_home.is in e

pub loop-m-init : goal.loop-m-init
unfolding labels_in
loop-m-init c =
    let n = (goal.at.loop-m-init c).After-none-load in
    let s = c in (
      record {
        within = omega (arith, s.requires.inside);
        light = subst (UpTo 1) (sym c.none-load.ensures) (up-to-more 0 1 no_load (omega arith) none-up-to);
        keeps =
            λ t W L.
            (least-setout (setout (tariff (over n t)) (row_at n _ _) _ _ c.none-load.ensures (sym fl-zero) s.requires.table-long refl refl) (ap Some c.start.ensures) refl);
      },
      record { times_long = refl; lates-long = refl; pays-long = refl; places-long = refl },
      omega arith,
    )

pub stop_at-stop-requires : goal.stop_at-stop-requires
stop_at-stop-requires c =
    let r = (goal.at.stop_at-stop-requires c).In-loop-m in
    let pre = c.requires in
    (pre.stops-long, subst (λ (k : ℕ). k < 64) (sym (c.last_call.ensures ∙ (is-run r).is_last)) (call_below _ _ _ pre.below (ahead-run r)))

pub returns-then-not-fits : goal.returns-then-not-fits
unfolding Rowed
returns-then-not-fits c =
    let f = c in
    let p = (goal.at.returns-then-not-fits c).After-stop_at-stop in
    let l = c in record {
      fact = (λ t W L.
          overloaded (l.loop-m.invariant.0.keeps t W L).along (inside p) _ _ (called p t W L _ _ refl refl).demand-is f.plus-load.ensures.result_value
          (sym f.fits.ensures.value ∙ c.if-not-fits.true));
      result_in_bounds = l.loop-m.invariant.0.within;
    }

pub returns-in_default : goal.returns-in_default
unfolding Rowed
returns-in_default c =
    let n = (goal.at.returns-in_default c).After-none-load in
    let q = c in
    let p = (goal.at.returns-in_default c).After-stop_at-stop in
    let l = c in
    let e : q.road_of.result ≡ None = search rules in record {
      fact = (λ t W L.
          cut_off (over n t) (l.loop-m.invariant.0.keeps t W L).along (inside p)
          (leg-closed _ _ _ (called p t W L _ _ q.leg_to.ensures refl).leg-is (sym q.road_of.ensures ∙ e)));
      result_in_bounds = l.loop-m.invariant.0.within;
    }

pub returns-then-not-some_left : goal.returns-then-not-some_left
unfolding Rowed
returns-then-not-some_left c =
    let n = (goal.at.returns-then-not-some_left c).After-none-load in
    let k = (goal.at.returns-then-not-some_left c).After-carry-before in
    let p = (goal.at.returns-then-not-some_left c).After-stop_at-stop in
    let l = c in
    let gone = none_left _ _ _ (sym c.some_left.ensures ∙ c.if-not-some_left.true) in record {
      fact = (λ t W L.
          let A = l.loop-m.invariant.0.keeps t W L in
          unplaced (over n t) refl (pause n) refl (going k t (called p t W L _ _ k.leg_to.ensures k.leg_to-travel.ensures) (inside p) (short p) _ _ _ A.along) A.labelled _ (add-one (m p)) k.carry-before.ensures
          k.call_served-n.ensures.are gone.0 gone.1);
      result_in_bounds = l.loop-m.invariant.0.within;
    }

pub loop-m-preserved-in_default-best_home : goal.loop-m-preserved-in_default-best_home
loop-m-preserved-in_default-best_home c =
    let n = (goal.at.loop-m-preserved-in_default-best_home c).After-none-load in
    let k = (goal.at.loop-m-preserved-in_default-best_home c).After-carry-before in
    let f = c in
    let p = (goal.at.loop-m-preserved-in_default-best_home c).After-stop_at-stop in
    let l = c in
    let b = c in
    let served = k.call_served-n.ensures in
    let e : f.best_home.result ≡ None = search rules in (
      record {
        within = omega (arith, ahead p);
        light = b.fits.ensures.up_to b.if-not-fits.false;
        keeps =
            λ t W L.
            let A = l.loop-m.invariant.0.keeps t W L in
            endless (over n t) refl (pause n) refl (going k t (called p t W L _ _ k.leg_to.ensures k.leg_to-travel.ensures) (inside p) (short p) _ _ _ A.along) A.labelled _ (add-one (m p)) k.carry-before.ensures
            served.are _ f.best_home.ensures (e);
      },
      served.full,
      omega (arith, served.most, l.loop-m.invariant.2),
    )

pub loop-m-preserved : goal.loop-m-preserved
loop-m-preserved c =
    let n = (goal.at.loop-m-preserved c).After-none-load in
    let k = (goal.at.loop-m-preserved c).After-carry-before in
    let o = c in
    let f = c in
    let p = (goal.at.loop-m-preserved c).After-stop_at-stop in
    let l = c in
    let b = c in
    let served = k.call_served-n.ensures in (
      record {
        within = omega (arith, ahead p);
        light = b.fits.ensures.up_to b.if-not-fits.false;
        keeps =
            λ t W L.
            let A = l.loop-m.invariant.0.keeps t W L in
            put (over n t) refl (pause n) refl (going k t (called p t W L _ _ k.leg_to.ensures k.leg_to-travel.ensures) (inside p) (short p) _ _ _ A.along) A.labelled _ (add-one (m p)) k.carry-before.ensures
            served.are _ f.best_home.ensures _ (at_home (goal.at.loop-m-preserved c).In-Some-best_home) _ _ (next-cell p) c.offer.ensures;
      },
      served.full,
      omega (arith, served.most, l.loop-m.invariant.2),
    )

pub returns : goal.returns
unfolding Rowed
returns c =
    let l = c in
    let all : l.loop-m.m ≡ length c.args.held.now - c.args.i = omega arith in record {
      fact = λ t W L. rw (← all) (run_out (l.loop-m.invariant.0.keeps t W L).along (simp length-drop (omega (arith, c.loop-m-test.false))));
      result_in_bounds = omega (arith, l.loop-m.invariant.0.within, all);
    }
