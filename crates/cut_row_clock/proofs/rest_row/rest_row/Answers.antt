-- `rest_row::rest_row` meets its contract. The loop's invariant is `RestAlong` for whatever tables the lists are worked out from: after m calls of the row, load, way and clock are those of
-- these calls, and the cells up to i + m are as the row leaves them. Assumes nothing.
use Prim.Native.Nat.{ℕ, ◌+◌, ◌-◌, ◌<◌, ◌≤◌}
use native.Mathlib.Omega.{arith}
use mathlib.Core.Path.{◌≡◌, refl, sym, ap, subst, ◌∙◌}
use Rattle.std.specs.Prelude.{None, Some}
use mathlib.Core.List.{List}
use lib.ListN.{length, get_or, take, drop, length-drop}
use lib.Dec.{eqb}
use lib.Ieee.{Float, nan}
use borrow.Author.Rules.{rules}
use Rattle.cut_theory.specs.Tab.{most_cut}
use Rattle.definitions.specs.Load.{no_load}
use Rattle.definitions.specs.Sheet.{BreakOf}
use Rattle.models.specs.declared.placement.Placement.TheVariants.{Clock}
use Rattle.models.specs.Records.{break_of}
use Rattle.models.specs.Load.{UpTo, none-up-to, up-to-more}
use Rattle.whole.proofs.Bits.{fl-zero}
use Rattle.distance.specs.Lookup.{road_f}
use Rattle.clock.specs.Records.{ClockF, clock_of}
use Rattle.clock.specs.Clock.{begun_f, push_f}
use Rattle.evaluation.specs.Records.{Tables}
use Rattle.cut_stops.specs.Stops.{stop_of, stop_at, StopsOf, LegsLong, LegsAre}
use Rattle.cut_table.specs.Table.{Table, table}
use Rattle.cut_runs.specs.Stretch.{joined_f, leg_to}
use Rattle.cut_runs.specs.Runs.{Instance, over_by, tariff, RowLists, row_lists, Rowed}
use Rattle.cut_runs.proofs.Along.{Row, row_from, setout}
use Rattle.cut_runs.proofs.Ends.{run_out, overloaded, cut_off}
use Rattle.cut_runs.proofs.Calls.{RunIs, run_is, call_below, way-is, CallIs, call-is, leg-closed}
use Rattle.cut_runs.proofs.Going.{same-terms}
use Rattle.cut_row_clock.proofs.RestAlong.{rest-setout, first-index, next-index, dead, endless, skip, put}
use Rattle.cut_row_clock.proofs.rest_row.rest_row.Goals as goal
use Rattle.cut_row_clock.proofs.rest_row.rest_row.Goals.{After-allow, After-new-clock, After-pushed-clock, After-stop_at-stop, In-loop-m}

-- the row with the break of the clock is that with the break lent
module _ (n : After-new-clock) where
  abbrev lists : RowLists
  lists = let a = n.args in row_lists a.held.now a.legs.now a.time_legs.now a.codes.now a.figures.now

  abbrev old : Table
  old = let a = n.args in table a.cost.now a.dist.now a.pred.now

  abbrev row_at : Float → Float → Row
  row_at base ahead = let a = n.args in row_from (drop a.i a.held.now) a.i old base ahead

  abbrev pause : BreakOf Float
  pause = (clock_of n.new-clock.result).rest

  abbrev over : Tables → Instance
  over t = over_by t n.args.terms Clock (Some pause)

  as_lent : (new : Table) (r : ℕ) → Rowed over lists n.args.i old new r
      → Rowed (λ t. over_by t n.args.terms Clock (Some (break_of n.args.rest))) lists n.args.i old new r
  as_lent new r = same-terms _ _ refl _ _ (ap (λ (x : ClockF). Some x.rest) n.new-clock.ensures) n.args.terms lists n.args.i old new r

-- the next run
module _ (r : In-loop-m) where
  ahead-run : r.args.i + r.loop-m.m < length r.args.held.now
  ahead-run = omega (arith, r.loop-m-test.true)

  is-run : RunIs r.args.held.now r.args.i r.loop-m.m (take (r.args.i + r.loop-m.m + 1 - r.args.i) (drop r.args.i r.args.held.now))
  is-run = run_is _ _ _ ahead-run

-- its last call
module _ (p : After-stop_at-stop) where
  -- the number of the row's first call, and how many calls of the row come before this one
  abbrev i : ℕ
  i = p.args.i

  abbrev m : ℕ
  m = p.loop-m.m

  abbrev x : RowLists
  x = let a = p.args in row_lists a.held.now a.legs.now a.time_legs.now a.codes.now a.figures.now

  abbrev run : List ℕ
  run = take (i + m + 1 - i) (drop i x.held)

  ahead : i + m < length x.held
  ahead = omega (arith, p.loop-m-test.true)

  few : (length x.held ≤ most_cut) × LegsLong x.legs
  few = (p.requires.few, p.requires.legs-long)

  inside : m < length (drop i x.held)
  inside = simp length-drop (omega (arith, ahead))

  short : i + length (drop i x.held) ≤ most_cut
  short = simp length-drop (omega (arith, few.0, p.requires.inside))

  next-cell : i + m + 1 ≡ i + (m + 1)
  next-cell = omega arith

  called : (t : Tables) → StopsOf t x.held x.stops → LegsAre t x.held x.legs
      → (leg travel : Float) → leg ≡ leg_to run (stop_of p.stop_at-stop.result).out (get_or x.legs.distances (i + m) nan)
      → travel ≡ leg_to run (stop_of p.stop_at-stop.result).time_out (get_or x.legs.times (i + m) nan)
      → CallIs t (drop i x.held) m (stop_of p.stop_at-stop.result) leg travel
  called t W L leg travel el et =
      call-is t x W L p.requires.below (run_is _ _ _ ahead) ahead
      (stop_of p.stop_at-stop.result) leg travel (p.stop_at-stop.ensures ∙ ap (stop_at x.stops) p.last_call.ensures) el et

-- the clock serves it
module _ (k : After-pushed-clock) where
  ahead-served : k.args.i + k.loop-m.m < length k.args.held.now
  ahead-served = omega (arith, k.loop-m-test.true)

  leg-open : road_f k.leg_to.result ≡ Some k.in-Some.leg
  leg-open = let e : k.road_of.result ≡ Some k.in-Some.leg = k.in-Some.is in sym k.road_of.ensures ∙ e

  far-way : k.way_to-gone.result ≡ joined_f k.loop-m.gone k.in-Some.leg (eqb k.loop-m.m 0)
  far-way = way-is (run_is _ _ _ ahead-served) _ _ _ k.way_to-gone.ensures

  served : clock_of k.pushed-clock.result
      ≡ push_f (clock_of k.loop-m.clock) (get_or (drop k.args.i k.args.held.now) k.loop-m.m 0)
      (stop_of k.stop_at-stop.result).customer k.leg_to-travel.result
  served =
      k.pushed-clock.ensures
      ∙ ap (λ (n : ℕ). push_f (clock_of k.loop-m.clock) n (stop_of k.stop_at-stop.result).customer k.leg_to-travel.result)
      (run_is _ _ _ ahead-served).is_last

-- the limits are asked
at_home : (g : After-allow) → g.finish.result ≡ Some g.in-Some-finish.done
at_home g = let e : g.finish.result ≡ Some g.in-Some-finish.done = g.in-Some-finish.is in e

pub loop-m-init : goal.loop-m-init
loop-m-init c =
    let s = c in
    let a = s.args in (
      record {
        within = omega (arith, s.requires.inside);
        light = subst (UpTo 1) (sym c.none-load.ensures) (up-to-more 0 1 no_load (omega arith) none-up-to);
        keeps =
            λ t W L.
            (rest-setout (setout (tariff (over c t)) (row_at c _ _) _ _ c.none-load.ensures (sym fl-zero) s.requires.table-long refl refl)
            (c.new-clock.ensures ∙ ap begun_f (sym (ap (λ (x : ClockF). x.rest) c.new-clock.ensures))));
      },
      first-index _ _ c.new-clock.ensures,
    )

pub stop_at-stop-requires : goal.stop_at-stop-requires
stop_at-stop-requires c =
    let r = (goal.at.stop_at-stop-requires c).In-loop-m in
    let pre = c.requires in
    (pre.stops-long, subst (λ (k : ℕ). k < 64) (sym (c.last_call.ensures ∙ (is-run r).is_last)) (call_below _ _ _ pre.below (ahead-run r)))

pub returns-then-not-fits : goal.returns-then-not-fits
unfolding Rowed
returns-then-not-fits c =
    let n = (goal.at.returns-then-not-fits c).After-new-clock in
    let f = c in
    let p = (goal.at.returns-then-not-fits c).After-stop_at-stop in
    let l = c in record {
      fact = as_lent n _ _
          (λ t W L.
          overloaded (l.loop-m.invariant.0.keeps t W L).along (inside p) _ _ (called p t W L _ _ refl refl).demand-is f.plus-load.ensures.result_value
          (sym f.fits.ensures.value ∙ c.if-not-fits.true));
      result_in_bounds = l.loop-m.invariant.0.within;
    }

pub returns-in_default : goal.returns-in_default
unfolding Rowed
returns-in_default c =
    let n = (goal.at.returns-in_default c).After-new-clock in
    let q = c in
    let p = (goal.at.returns-in_default c).After-stop_at-stop in
    let l = c in
    let e : q.road_of.result ≡ None = search rules in record {
      fact = as_lent n _ _
          (λ t W L.
          cut_off (over n t) (l.loop-m.invariant.0.keeps t W L).along (inside p)
          (leg-closed _ _ _ (called p t W L _ _ q.leg_to.ensures refl).leg-is (sym q.road_of.ensures ∙ e)));
      result_in_bounds = l.loop-m.invariant.0.within;
    }

pub returns-then-not-alive : goal.returns-then-not-alive
unfolding Rowed
returns-then-not-alive c =
    let n = (goal.at.returns-then-not-alive c).After-new-clock in
    let k = (goal.at.returns-then-not-alive c).After-pushed-clock in
    let b = c in
    let p = (goal.at.returns-then-not-alive c).After-stop_at-stop in
    let l = c in record {
      fact = as_lent n _ _
          (λ t W L.
          dead (over n t) refl (pause n) refl _ _ _ _ (l.loop-m.invariant.0.keeps t W L) (called p t W L _ _ k.leg_to.ensures k.leg_to-travel.ensures)
          (inside p) (short p) b.plus-load.ensures.result_value (sym b.fits.ensures.value ∙ b.if-not-fits.false) (leg-open k) (far-way k) (served k)
          (sym c.alive.ensures ∙ c.if-not-alive.true));
      result_in_bounds = l.loop-m.invariant.0.within;
    }

pub loop-m-preserved-in_default-finish : goal.loop-m-preserved-in_default-finish
loop-m-preserved-in_default-finish c =
    let n = (goal.at.loop-m-preserved-in_default-finish c).After-new-clock in
    let k = (goal.at.loop-m-preserved-in_default-finish c).After-pushed-clock in
    let f = c in
    let b = c in
    let p = (goal.at.loop-m-preserved-in_default-finish c).After-stop_at-stop in
    let l = c in
    let e : f.finish.result ≡ None = search rules in (
      record {
        within = omega (arith, ahead p);
        light = b.fits.ensures.up_to b.if-not-fits.false;
        keeps =
            λ t W L.
            endless (over n t) refl (pause n) refl _ _ _ _ (l.loop-m.invariant.0.keeps t W L) (called p t W L _ _ k.leg_to.ensures k.leg_to-travel.ensures)
            (inside p) (short p) b.plus-load.ensures.result_value (sym b.fits.ensures.value ∙ b.if-not-fits.false) (leg-open k) (far-way k) (served k)
            _ f.finish.ensures (e);
      },
      next-index _ _ _ _ _ _ (served k) l.loop-m.invariant.1,
    )

pub loop-m-preserved-then-not-allow : goal.loop-m-preserved-then-not-allow
loop-m-preserved-then-not-allow c =
    let n = (goal.at.loop-m-preserved-then-not-allow c).After-new-clock in
    let k = (goal.at.loop-m-preserved-then-not-allow c).After-pushed-clock in
    let g = (goal.at.loop-m-preserved-then-not-allow c).After-allow in
    let f = c in
    let b = c in
    let p = (goal.at.loop-m-preserved-then-not-allow c).After-stop_at-stop in
    let l = c in (
      record {
        within = omega (arith, ahead p);
        light = b.fits.ensures.up_to b.if-not-fits.false;
        keeps =
            λ t W L.
            skip (over n t) refl (pause n) refl _ _ _ _ (l.loop-m.invariant.0.keeps t W L) (called p t W L _ _ k.leg_to.ensures k.leg_to-travel.ensures)
            (inside p) (short p) b.plus-load.ensures.result_value (sym b.fits.ensures.value ∙ b.if-not-fits.false) (leg-open k) (far-way k) (served k)
            _ f.finish.ensures _ (at_home g) (sym g.allow.ensures ∙ c.if-not-allow.true);
      },
      next-index _ _ _ _ _ _ (served k) l.loop-m.invariant.1,
    )

pub loop-m-preserved : goal.loop-m-preserved
loop-m-preserved c =
    let n = (goal.at.loop-m-preserved c).After-new-clock in
    let k = (goal.at.loop-m-preserved c).After-pushed-clock in
    let g = (goal.at.loop-m-preserved c).After-allow in
    let f = c in
    let b = c in
    let p = (goal.at.loop-m-preserved c).After-stop_at-stop in
    let l = c in (
      record {
        within = omega (arith, ahead p);
        light = b.fits.ensures.up_to b.if-not-fits.false;
        keeps =
            λ t W L.
            put (over n t) refl (pause n) refl _ _ _ _ (l.loop-m.invariant.0.keeps t W L) (called p t W L _ _ k.leg_to.ensures k.leg_to-travel.ensures)
            (inside p) (short p) b.plus-load.ensures.result_value (sym b.fits.ensures.value ∙ b.if-not-fits.false) (leg-open k) (far-way k) (served k)
            _ f.finish.ensures _ (at_home g) _ _ (sym g.allow.ensures ∙ c.if-not-allow.false) (next-cell p)
            c.offer.ensures;
      },
      next-index _ _ _ _ _ _ (served k) l.loop-m.invariant.1,
    )

pub returns : goal.returns
unfolding Rowed
returns c =
    let n = (goal.at.returns c).After-new-clock in
    let l = c in
    let all : l.loop-m.m ≡ length c.args.held.now - c.args.i = omega arith in record {
      fact = rw (← all) (as_lent n _ _ (λ t W L. run_out (l.loop-m.invariant.0.keeps t W L).along (simp length-drop (omega (arith, c.loop-m-test.false)))));
      result_in_bounds = omega (arith, l.loop-m.invariant.0.within, all);
    }
