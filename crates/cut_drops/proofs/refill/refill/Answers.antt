-- `refill::refill` meets its contract. The loop's invariant is `Again`: after s rows the cells behind q are those of the table of the rows below s. Assumes nothing.
use Prim.Native.Nat.{ℕ}
use native.Mathlib.Omega.{arith}
use mathlib.Core.List.{List}
use Rattle.evaluation.specs.Records.{Tables}
use Rattle.cut_table.specs.Table.{table}
use Rattle.cut_runs.specs.Runs.{Instance, over, RowLists, row_lists}
use Rattle.cut_drops.specs.Refill.{rows}
use Rattle.cut_drops.proofs.Noting.{listed-long}
use Rattle.cut_drops.proofs.Again.{none-again, row-again, row-passed, all-again}
use Rattle.cut_drops.proofs.refill.refill.Goals as goal
use Rattle.cut_drops.proofs.refill.refill.Goals.{After-clear}

module _ (k : After-clear) where
  abbrev over_by : Tables → Instance
  over_by t = over t k.args.terms

  abbrev lists : RowLists
  lists = let a = k.args in row_lists a.held.now a.legs.now a.time_legs.now a.codes.now a.figures.now

  abbrev reached : List ℕ
  reached = k.args.reach.now

pub loop-s-init : goal.loop-s-init
loop-s-init c =
    let at_after_clear = (goal.at.loop-s-init c).After-clear in
    let k = c.clear.ensures in (
      none-again (over_by at_after_clear) (lists at_after_clear) c.args.q (rows _ _ _ (reached at_after_clear)),
      record {
        table-long = record { cost-long = k.cost-cleared.long; far-long = k.far-cleared.long; pred-long = k.pred-cleared.long };
        reach-long = c.requires.fact.reach-long;
      },
    )

pub loop-s-preserved-then-reach-s : goal.loop-s-preserved-then-reach-s
loop-s-preserved-then-reach-s c =
    let at_after_clear = (goal.at.loop-s-preserved-then-reach-s c).After-clear in
    let t = c in
    let l = t in
    let r = c.requires.fact.row in (
      row-passed (over_by at_after_clear) (lists at_after_clear) c.args.q (rows _ _ _ (reached at_after_clear)) l.loop-s.s t.loop-s-test.true r.inside r.few
          (rows l.loop-s.cost l.loop-s.dist l.loop-s.pred l.loop-s.reach) l.loop-s.invariant.0 c.if-reach-s.true,
      l.loop-s.invariant.1,
    )

pub loop-s-preserved : goal.loop-s-preserved
loop-s-preserved c =
    let at_after_clear = (goal.at.loop-s-preserved c).After-clear in
    let t = c in
    let l = t in
    let s = c in
    let r = s.requires.fact.row in
    let old = rows l.loop-s.cost l.loop-s.dist l.loop-s.pred l.loop-s.reach in
    let n = c.noted_row.ensures in (
      row-again (over_by at_after_clear) (lists at_after_clear) s.args.q (rows _ _ _ (reached at_after_clear)) l.loop-s.s t.loop-s-test.true r.inside r.few old l.loop-s.invariant.0 _ n,
      listed-long (over_by at_after_clear) (lists at_after_clear) l.loop-s.s old _ s.requires.listed l.loop-s.invariant.1.reach-long n,
    )

pub returns : goal.returns
returns c =
    let at_after_clear = (goal.at.returns c).After-clear in
    let l = c in
    let a = c.args in
    all-again (over_by at_after_clear) (lists at_after_clear) a.q (rows _ _ _ (reached at_after_clear)) (table a.cost.now a.dist.now a.pred.now)
    (rows l.loop-s.cost l.loop-s.dist l.loop-s.pred l.loop-s.reach) l.clear.ensures l.loop-s.invariant.1.reach-long l.loop-s.s (omega arith) l.loop-s.invariant.0
