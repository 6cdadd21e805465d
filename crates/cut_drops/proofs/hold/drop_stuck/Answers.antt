-- `hold::drop_stuck` meets its contract. The loop's invariant is `Turn`: the table of the rows below i is filled, each beginning up to i has a cutting, and the drops from the calls held on
-- are those of the tour. It is said of any customers that the lists are worked out from, since the loop has only the lists. The measure is how many calls are left. Assumes nothing.
use Prim.Native.Nat.{ℕ, ◌-◌}
use native.Mathlib.Omega.{arith}
use mathlib.Core.Path.{◌≡◌, sym, ap}
use lib.ListN.{length, take}
use lib.Seq.{length-take-le}
use Rattle.cut_stops.specs.Stops.{leg_lists}
use Rattle.cut_table.specs.Table.{calls}
use Rattle.cut_drops.specs.Refill.{rows, Given, given, tables_with, Work, work}
use Rattle.cut_drops.proofs.Noting.{legs-part}
use Rattle.cut_drops.proofs.Settling.{filled-long}
use Rattle.cut_drops.proofs.Turns.{some_of, some-lists, some-on, turn-begins, turn_on, turn-off, turn-ends}
use Rattle.cut_drops.proofs.hold.drop_stuck.Goals as goal
use Rattle.cut_drops.proofs.hold.drop_stuck.Goals.{After-shared_slice_known-4-1, At-loop-i}

module _ (k : After-shared_slice_known-4-1) where
  abbrev lent : Given
  lent = let a = k.args in given a.distances.now a.times.now a.size a.codes.now a.figures.now a.terms

  all_held : length (take k.args.n k.args.held.now) ≡ k.args.n
  all_held = length-take-le k.args.n k.args.held.now k.requires.front.held-long

module _ (l : At-loop-i) where
  abbrev now-at : Work
  now-at =
      let y = l.loop-i in
      work (calls y.held y.positions y.dropped) (leg_lists y.legs y.time_legs) (rows y.cost y.dist y.pred y.reach)

  gone-by : l.args.n - l.loop-i.left ≡ length (take l.args.n l.args.held.now) - l.loop-i.left
  gone-by = ap (λ (k : ℕ). k - l.loop-i.left) (sym (length-take-le l.args.n l.args.held.now l.requires.front.held-long))

pub loop-i-init : goal.loop-i-init
loop-i-init c =
    let at_after_shared_slice_known = (goal.at.loop-i-init c).After-shared_slice_known-4-1 in
    let s = c in
    let a = s.args in
    turn-begins (lent at_after_shared_slice_known) a.n
    (work (calls a.held.now a.positions.now a.dropped.now) (leg_lists a.legs.now a.time_legs.now) (rows a.cost.now a.dist.now a.pred.now a.reach.now))
    s.requires

pub row_or_drop-requires : goal.row_or_drop-requires
row_or_drop-requires c =
    let at_after_shared_slice_known = (goal.at.row_or_drop-requires c).After-shared_slice_known-4-1 in
    let at_at_loop_i = (goal.at.row_or_drop-requires c).At-loop-i in
    let t = c in
    let l = t in
    let k = l in
    let E = lent at_after_shared_slice_known in
    let some = c.requires.lists in
    let v = l.loop-i.invariant.roomy in
    let f = (l.loop-i.invariant.settling (some_of E _ some) (some-lists E _ some)).filled in
    let m = all_held at_after_shared_slice_known in
    record {
      few = omega (arith, v.few, v.short);
      may-drop =
          record {
            inside = t.loop-i-test.true;
            held-long = omega (arith, v.few, v.held-room);
            positions-long = omega (arith, v.few, v.short, v.positions-long);
            room = omega (arith, m, v.few, v.dropped-room, t.loop-i-test.true);
          };
      below = v.below;
      rows_long = filled-long _ _ l.loop-i.i (now-at at_at_loop_i).legs (now-at at_at_loop_i).rows f;
      legs-long = f.legs-long;
      legs-are = legs-part (tables_with E (some_of E _ some)) _ l.loop-i.left (now-at at_at_loop_i).legs f.legs-are;
      lists = some-on E _ _ l.loop-i.invariant.listed some;
    }

pub loop-i-preserved-then-row_or_drop : goal.loop-i-preserved-then-row_or_drop
loop-i-preserved-then-row_or_drop c =
    let at_after_shared_slice_known = (goal.at.loop-i-preserved-then-row_or_drop c).After-shared_slice_known-4-1 in
    let at_at_loop_i = (goal.at.loop-i-preserved-then-row_or_drop c).At-loop-i in
    let t = c in
    let l = t in
    let k = l in
    let E = lent at_after_shared_slice_known in
    let some = c.requires.lists in
    turn_on E _ c.args.held.now c.args.dropped.now l.loop-i.left l.loop-i.i (now-at at_at_loop_i) l.loop-i.invariant t.loop-i-test.true _ (gone-by at_at_loop_i) _
    (work (calls _ _ _) (leg_lists _ _) (rows _ _ _ _)) c.row_or_drop.ensures (some_of E _ some) (some-lists E _ some) c.if-row_or_drop.true

pub loop-i-preserved : goal.loop-i-preserved
loop-i-preserved c =
    let at_after_shared_slice_known = (goal.at.loop-i-preserved c).After-shared_slice_known-4-1 in
    let at_at_loop_i = (goal.at.loop-i-preserved c).At-loop-i in
    let t = c in
    let l = t in
    let k = l in
    let E = lent at_after_shared_slice_known in
    let some = c.requires.lists in
    turn-off E _ c.args.held.now c.args.dropped.now l.loop-i.left l.loop-i.i (now-at at_at_loop_i) l.loop-i.invariant t.loop-i-test.true _ (gone-by at_at_loop_i) _
    (work (calls _ _ _) (leg_lists _ _) (rows _ _ _ _)) c.row_or_drop.ensures (some_of E _ some) (some-lists E _ some) c.if-row_or_drop.false
    (omega arith) (omega arith) (omega arith)

pub returns : goal.returns
returns c =
    let at_after_shared_slice_known = (goal.at.returns c).After-shared_slice_known-4-1 in
    let at_at_loop_i = (goal.at.returns c).At-loop-i in
    let l = c in
    let k = l in
    let v = l.loop-i.invariant.roomy in record { fact = turn-ends (lent at_after_shared_slice_known) _ c.args.held.now c.args.dropped.now l.loop-i.left l.loop-i.i (now-at at_at_loop_i) l.loop-i.invariant c.loop-i-test.false; upper_bound = omega (arith, all_held at_after_shared_slice_known, v.few) }
