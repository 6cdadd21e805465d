-- `plan::run_lines` meets its contract. The loop's invariant: the lines of the first k runs are put. Assumes nothing.
use Rattle.std.proofs.Common.{arith, rules}
use lib.Ieee.{nan}
use Rattle.listing_lines.proofs.RunWalk.{begins, inside}
use Rattle.listing_lines.proofs.RunTurns.{run_list, set_out, kept, room, turn, ended, short-end}
use Rattle.listing_lines.proofs.plan.run_lines.Goals as goal

pub loop-k-init : goal.loop-k-init
loop-k-init c =
    let s = c in
    let a = s.args in
    set_out (run_list a.calls.now a.ends.now a.places.now a.starts.now) a.at a.out.now s.requires.rise_to (omega arith)

pub offset_bounds-calls-from : goal.offset_bounds-calls-from
offset_bounds-calls-from c = omega (arith, begins c.loop-k.invariant.at-run)

pub slice_bounds-run_line-end : goal.slice_bounds-run_line-end
slice_bounds-run_line-end c =
    let r = c.loop-k.invariant.at-run in
    search (rules, inside r c.loop-k-test.true)

pub run_line-end-requires : goal.run_line-end-requires
run_line-end-requires c =
    let q = c.loop-k.invariant in
    omega (arith, room q c.loop-k-test.true c.requires.ends_in_bounds nan c.requires.calls_in_bounds, kept q)

pub loop-k-preserved : goal.loop-k-preserved
loop-k-preserved c =
    turn c.loop-k.invariant c.loop-k-test.true c.requires.ends_in_bounds nan c.requires.calls_in_bounds c.whole_part-start.result c.whole_part-start.ensures c.run_line-end.ensures.text c.run_line-end.ensures.short

pub returns : goal.returns
returns c =
    let q = c.loop-k.invariant in
    record { text = ended q (omega arith); short = short-end q }
