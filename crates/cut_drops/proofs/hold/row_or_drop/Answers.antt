-- `hold::row_or_drop` meets its contract: `row_stays` where the row's cell says that the calls have a cutting, and else `row_drops`. Assumes nothing.
use native.Mathlib.Omega.{arith}
use lib.Seq.{length-take-le}
use Rattle.cut_stops.specs.Stops.{leg_lists}
use Rattle.cut_table.specs.Table.{calls}
use Rattle.cut_drops.specs.Refill.{rows, Given, given, tables_with, Work, work}
use Rattle.cut_drops.proofs.Noting.{legs-whole}
use Rattle.cut_drops.proofs.Settling.{few-taken, one_fewer, below-after, stops-after, legs-kept}
use Rattle.cut_drops.proofs.Turns.{some_of, some-lists, some-on, row-long, row_stays, row_drops}
use Rattle.cut_drops.proofs.hold.row_or_drop.Goals as goal
use Rattle.cut_drops.proofs.hold.row_or_drop.Goals.{After-infinity-top}

module _ (top : After-infinity-top) where
  abbrev lent : Given
  lent = let a = top.args in given a.distances.now a.times.now a.size a.codes.now a.figures.now a.terms

  abbrev old : Work
  old =
      let a = top.args in
      work (calls a.held.now a.positions.now a.dropped.now) (leg_lists a.legs.now a.time_legs.now)
      (rows a.cost.now a.dist.now a.pred.now a.reach.now)

pub noted_row-requires : goal.noted_row-requires
noted_row-requires c =
    let at_after_infinity_top = (goal.at.noted_row-requires c).After-infinity-top in
    let p = c.requires in
    let m = length-take-le c.args.n c.args.held.now p.may-drop.held-long in
    record {
      row =
          record {
            inside = omega (arith, m, p.may-drop.inside);
            few = omega (arith, m, p.few);
            below = p.below;
            legs-long = p.legs-long;
            stops-long = (some-lists (lent at_after_infinity_top) _ p.lists).long;
            table-long = p.rows_long.table-long;
          };
      reach-long = p.rows_long.reach-long;
    }

pub returns-then-cost-i : goal.returns-then-cost-i
returns-then-cost-i c =
    let at_after_infinity_top = (goal.at.returns-then-cost-i c).After-infinity-top in
    let r = c in
    let top = r in
    let a = c.args in
    let p = c.requires in
    row_stays (lent at_after_infinity_top) a.n a.i a.gone (old at_after_infinity_top) p.few p.may-drop.held-long p.may-drop.inside (rows _ _ _ _) r.noted_row.ensures _ top.infinity-top.ensures
    c.if-cost-i.true

pub close_gap-requires : goal.close_gap-requires
close_gap-requires c =
    let at_after_infinity_top = (goal.at.close_gap-requires c).After-infinity-top in
    let d = c in
    let r = c in
    let top = r in
    let a = c.args in
    let p = c.requires in
    let b = p.may-drop.inside in
    let long = p.may-drop.held-long in
    let E = lent at_after_infinity_top in
    let w = some-lists E _ p.lists in
    let t = tables_with E (some_of E _ p.lists) in
    let less = d.drop_call.ensures.held-less in
    let legs = (old at_after_infinity_top).legs in
    let L = legs-whole t _ a.n legs (few-taken a.n a.n a.held.now (omega arith) long) p.legs-are in
    let m = one_fewer a.n a.i a.held.now _ b long less in
    let z =
    row-long E a.n a.i a.gone (old at_after_infinity_top) p.few long b (rows _ _ _ _) r.noted_row.ensures (some_of E _ p.lists) w L p.rows_long.reach-long in record {
      fact = record {
        row =
            record {
              inside = omega (arith, m, b);
              few = omega (arith, m, p.few);
              below = below-after a.n a.i a.held.now _ b long less p.below;
              legs-long = p.legs-long;
              stops-long = w.long;
              table-long = z.table-long;
            };
        reach-long = z.reach-long;
      };
      fact_2 = (
        some-on E _ _ (λ customers W. stops-after a.n a.i a.held.now _ b long less (tables_with E customers) E.stops W) p.lists,
        legs-kept a.n a.i a.held.now _ b long less t legs L,
      );
    }

pub returns : goal.returns
returns c =
    let at_after_infinity_top = (goal.at.returns c).After-infinity-top in
    let d = c in
    let r = c in
    let top = r in
    let a = c.args in
    let p = c.requires in
    row_drops (lent at_after_infinity_top) a.n a.i a.gone (old at_after_infinity_top) p.few p.may-drop.held-long p.may-drop.inside (rows _ _ _ _) r.noted_row.ensures _ top.infinity-top.ensures
    c.if-cost-i.false (work (calls _ _ _) (leg_lists _ _) (rows _ _ _ _)) d.drop_call.ensures c.close_gap.ensures.fact_3 c.close_gap.ensures.fact_4
