-- `rows::plain_row` meets its contract. The loop's invariant is `PlainAlong` for whatever tables the lists are worked out from: after m calls of the row, load, way, time and lateness cost are
-- those of these calls, and the cells up to i + m are as the row leaves them. Assumes nothing.
use Prim.Native.Nat.{ℕ, ◌+◌, ◌-◌, ◌<◌, ◌≤◌}
use native.Mathlib.Omega.{arith}
use mathlib.Core.Path.{◌≡◌, refl, sym, ap, subst, ◌∙◌}
use Rattle.std.specs.Prelude.{None, Some}
use mathlib.Core.List.{List}
use lib.ListN.{length, get_or, take, drop, length-drop}
use lib.Dec.{eqb}
use lib.Ieee.{Float, nan}
use borrow.Author.Rules.{rules}
use Rattle.cut_theory.specs.Tab.{most_cut}
use Rattle.definitions.specs.Load.{no_load}
use Rattle.models.specs.Load.{UpTo, none-up-to, up-to-more}
use Rattle.whole.proofs.Bits.{fl-zero}
use Rattle.distance.specs.Lookup.{road_f}
use Rattle.evaluation.specs.Records.{Tables}
use Rattle.cut_stops.specs.Stops.{stop_of, stop_at, StopsOf, LegsLong, LegsAre}
use Rattle.cut_table.specs.Table.{table}
use Rattle.cut_runs.specs.Stretch.{joined_f, leg_to}
use Rattle.cut_runs.specs.Runs.{Instance, over_by, tariff, RowLists, row_lists, Rowed}
use Rattle.cut_runs.proofs.Along.{Row, row_from, setout}
use Rattle.cut_runs.proofs.Ends.{run_out, overloaded, cut_off}
use Rattle.cut_runs.proofs.Calls.{RunIs, run_is, call_below, way-is, CallIs, call-is, leg-closed}
use Rattle.cut_rows.proofs.PlainAlong.{plain-setout, shut, skip, put}
use Rattle.cut_rows.proofs.rows.plain_row.Goals as goal
use Rattle.cut_rows.proofs.rows.plain_row.Goals.{After-allow, After-none-load, After-stop_at-stop, After-visit, In-loop-m}

-- the loop is entered
module _ (n : After-none-load) where
  abbrev row_at : Float → Float → Row
  row_at base ahead = let a = n.args in row_from (drop a.i a.held.now) a.i (table a.cost.now a.dist.now a.pred.now) base ahead

  abbrev over : Tables → Instance
  over t = over_by t n.args.terms n.args.terms.placement None

-- the next run
module _ (r : In-loop-m) where
  ahead-run : r.args.i + r.loop-m.m < length r.args.held.now
  ahead-run = omega (arith, r.loop-m-test.true)

  is-run : RunIs r.args.held.now r.args.i r.loop-m.m (take (r.args.i + r.loop-m.m + 1 - r.args.i) (drop r.args.i r.args.held.now))
  is-run = run_is _ _ _ ahead-run

-- its last call
module _ (p : After-stop_at-stop) where
  -- the number of the row's first call, and how many calls of the row come before this one
  abbrev i : ℕ
  i = p.args.i

  abbrev m : ℕ
  m = p.loop-m.m

  abbrev x : RowLists
  x = let a = p.args in row_lists a.held.now a.legs.now a.time_legs.now a.codes.now a.figures.now

  abbrev run : List ℕ
  run = take (i + m + 1 - i) (drop i x.held)

  ahead : i + m < length x.held
  ahead = omega (arith, p.loop-m-test.true)

  few : (length x.held ≤ most_cut) × LegsLong x.legs
  few = (p.requires.few, p.requires.legs-long)

  inside : m < length (drop i x.held)
  inside = simp length-drop (omega (arith, ahead))

  short : i + length (drop i x.held) ≤ most_cut
  short = simp length-drop (omega (arith, few.0, p.requires.inside))

  next-cell : i + m + 1 ≡ i + (m + 1)
  next-cell = omega arith

  called : (t : Tables) → StopsOf t x.held x.stops → LegsAre t x.held x.legs
      → (leg travel : Float) → leg ≡ leg_to run (stop_of p.stop_at-stop.result).out (get_or x.legs.distances (i + m) nan)
      → travel ≡ leg_to run (stop_of p.stop_at-stop.result).time_out (get_or x.legs.times (i + m) nan)
      → CallIs t (drop i x.held) m (stop_of p.stop_at-stop.result) leg travel
  called t W L leg travel el et =
      call-is t x W L p.requires.below (run_is _ _ _ ahead) ahead
      (stop_of p.stop_at-stop.result) leg travel (p.stop_at-stop.ensures ∙ ap (stop_at x.stops) p.last_call.ensures) el et

-- the call is visited
module _ (v : After-visit) where
  ahead-visit : v.args.i + v.loop-m.m < length v.args.held.now
  ahead-visit = omega (arith, v.loop-m-test.true)

  leg-open : road_f v.leg_to.result ≡ Some v.in-Some.leg
  leg-open = let e : v.road_of.result ≡ Some v.in-Some.leg = v.in-Some.is in sym v.road_of.ensures ∙ e

  far-way : v.way_to-gone.result ≡ joined_f v.loop-m.gone v.in-Some.leg (eqb v.loop-m.m 0)
  far-way = way-is (run_is _ _ _ ahead-visit) _ _ _ v.way_to-gone.ensures

  time-way : v.way_to-arrival.result ≡ joined_f v.loop-m.time v.leg_to-in-loop-m.result (eqb v.loop-m.m 0)
  time-way = way-is (run_is _ _ _ ahead-visit) _ _ _ v.way_to-arrival.ensures

-- the limits are asked
served : (g : After-allow) → g.visit.result ≡ Some g.in-Some-visit.v
served g = let e : g.visit.result ≡ Some g.in-Some-visit.v = g.in-Some-visit.is in e

pub loop-m-init : goal.loop-m-init
loop-m-init c =
    let n = (goal.at.loop-m-init c).After-none-load in
    let s = c in
    let a = s.args in
    record {
      within = omega (arith, s.requires.inside);
      light = subst (UpTo 1) (sym c.none-load.ensures) (up-to-more 0 1 no_load (omega arith) none-up-to);
      keeps =
          λ t W L.
          (plain-setout (setout (tariff (over n t)) (row_at n _ _) _ _ c.none-load.ensures (sym fl-zero) s.requires.table-long refl refl) (sym fl-zero) (sym fl-zero));
    }

pub stop_at-stop-requires : goal.stop_at-stop-requires
stop_at-stop-requires c =
    let r = (goal.at.stop_at-stop-requires c).In-loop-m in
    let pre = c.requires in
    (pre.stops-long, subst (λ (k : ℕ). k < 64) (sym (c.last_call.ensures ∙ (is-run r).is_last)) (call_below _ _ _ pre.below (ahead-run r)))

pub returns-then-not-fits : goal.returns-then-not-fits
unfolding Rowed
returns-then-not-fits c =
    let f = c in
    let p = (goal.at.returns-then-not-fits c).After-stop_at-stop in
    let l = c in record {
      fact = λ t W L.
          overloaded (l.loop-m.invariant.keeps t W L).along (inside p) _ _ (called p t W L _ _ refl refl).demand-is f.plus-load.ensures.result_value
          (sym f.fits.ensures.value ∙ c.if-not-fits.true);
      result_in_bounds = l.loop-m.invariant.within;
    }

pub returns-in_default : goal.returns-in_default
unfolding Rowed
returns-in_default c =
    let n = (goal.at.returns-in_default c).After-none-load in
    let q = c in
    let p = (goal.at.returns-in_default c).After-stop_at-stop in
    let l = c in
    let e : q.road_of.result ≡ None = search rules in record {
      fact = λ t W L.
          cut_off (over n t) (l.loop-m.invariant.keeps t W L).along (inside p)
          (leg-closed _ _ _ (called p t W L _ _ q.leg_to.ensures refl).leg-is (sym q.road_of.ensures ∙ e));
      result_in_bounds = l.loop-m.invariant.within;
    }

pub returns-in_default-visit : goal.returns-in_default-visit
unfolding Rowed
returns-in_default-visit c =
    let n = (goal.at.returns-in_default-visit c).After-none-load in
    let v = (goal.at.returns-in_default-visit c).After-visit in
    let b = c in
    let p = (goal.at.returns-in_default-visit c).After-stop_at-stop in
    let l = c in
    let e : v.visit.result ≡ None = search rules in record {
      fact = λ t W L.
          shut (over n t) refl _ _ _ _ _ (l.loop-m.invariant.keeps t W L) (called p t W L _ _ v.leg_to.ensures v.leg_to-in-loop-m.ensures) (inside p) (short p)
          b.plus-load.ensures.result_value (sym b.fits.ensures.value ∙ b.if-not-fits.false) (leg-open v) (far-way v) (time-way v)
          (sym v.visit.ensures ∙ e);
      result_in_bounds = l.loop-m.invariant.within;
    }

pub loop-m-preserved-then-not-allow : goal.loop-m-preserved-then-not-allow
loop-m-preserved-then-not-allow c =
    let n = (goal.at.loop-m-preserved-then-not-allow c).After-none-load in
    let g = c in
    let v = (goal.at.loop-m-preserved-then-not-allow c).After-visit in
    let b = c in
    let p = (goal.at.loop-m-preserved-then-not-allow c).After-stop_at-stop in
    let l = c in
    record {
      within = omega (arith, ahead p);
      light = b.fits.ensures.up_to b.if-not-fits.false;
      keeps =
          λ t W L.
          skip (over n t) refl _ _ _ _ _ (l.loop-m.invariant.keeps t W L) (called p t W L _ _ v.leg_to.ensures v.leg_to-in-loop-m.ensures) (inside p) (short p)
          b.plus-load.ensures.result_value (sym b.fits.ensures.value ∙ b.if-not-fits.false) (leg-open v) (far-way v) (time-way v)
          _ (sym v.visit.ensures ∙ served (goal.at.loop-m-preserved-then-not-allow c).After-allow) (sym g.allow.ensures ∙ c.if-not-allow.true);
    }

pub loop-m-preserved : goal.loop-m-preserved
loop-m-preserved c =
    let n = (goal.at.loop-m-preserved c).After-none-load in
    let g = c in
    let v = (goal.at.loop-m-preserved c).After-visit in
    let b = c in
    let p = (goal.at.loop-m-preserved c).After-stop_at-stop in
    let l = c in
    record {
      within = omega (arith, ahead p);
      light = b.fits.ensures.up_to b.if-not-fits.false;
      keeps =
          λ t W L.
          put (over n t) refl _ _ _ _ _ (l.loop-m.invariant.keeps t W L) (called p t W L _ _ v.leg_to.ensures v.leg_to-in-loop-m.ensures) (inside p) (short p)
          b.plus-load.ensures.result_value (sym b.fits.ensures.value ∙ b.if-not-fits.false) (leg-open v) (far-way v) (time-way v)
          _ (sym v.visit.ensures ∙ served (goal.at.loop-m-preserved c).After-allow) _ _
          (sym g.allow.ensures ∙ c.if-not-allow.false) (next-cell p) c.offer.ensures;
    }

pub returns : goal.returns
unfolding Rowed
returns c =
    let l = c in
    let all : l.loop-m.m ≡ length c.args.held.now - c.args.i = omega arith in record {
      fact = λ t W L. rw (← all) (run_out (l.loop-m.invariant.keeps t W L).along (simp length-drop (omega (arith, c.loop-m-test.false))));
      result_in_bounds = omega (arith, l.loop-m.invariant.within, all);
    }
