-- `mark::mark_runs` meets its contract. The loop's invariant is `Left`: the runs that are left are marked, on top of the cost so far, as all are. Assumes nothing.
use mathlib.Core.Path.{◌≡◌, sym, ◌∙◌}
use native.Mathlib.Omega.{arith}
use Rattle.basics.proofs.ResultLaws.{same_error}
use Rattle.whole.proofs.Bits.{fl-zero}
use Rattle.std.specs.Prelude.{Ok, Err}
use Rattle.marker.specs.RunMark.{ground_of}
use Rattle.marker.proofs.Runs.{set_out, next-inside, onward, stopped, ended}
use borrow.Author.Rules.{rules}
use Rattle.marker.proofs.mark.mark_runs.Goals as goal

pub loop-k-init : goal.loop-k-init
loop-k-init c =
    let a = c.args in
    set_out (ground_of a.customers a.distances.now a.times.now a.head) a.calls.now a.ends.now a.breaks.now _ fl-zero c.requires.calls_value

pub offset_bounds-calls-p : goal.offset_bounds-calls-p
offset_bounds-calls-p c = omega (arith, next-inside c.loop-k.invariant c.loop-k-test.true)

pub slice_bounds-mark_run-end : goal.slice_bounds-mark_run-end
slice_bounds-mark_run-end c = omega (arith, next-inside c.loop-k.invariant c.loop-k-test.true)

pub returns-in_err-cost : goal.returns-in_err-cost
returns-in_err-cost c =
    let e : c.mark_run.result ≡ Err c.in_err-cost.field-0.0 = search rules in
    same_error c.from_residual.ensures.1 ∙ (sym e ∙ stopped c.loop-k.invariant c.loop-k-test.true c.requires.calls_len_bound.1 c.mark_run.result c.mark_run.ensures c.in_err-cost.field-0.0 e)

pub loop-k-preserved : goal.loop-k-preserved
loop-k-preserved c =
    let x = c.loop-k in
    let e : c.mark_run.result ≡ Ok c.in_ok-cost.cost = search rules in
    onward x.invariant c.loop-k-test.true c.requires.calls_len_bound.1 c.mark_run.result c.mark_run.ensures c.in_ok-cost.cost e

pub returns : goal.returns
returns c = ended c.loop-k.invariant c.loop-k-test.false
