-- `load::load_of` meets its contract. The loop's invariant: the load so far and that of the calls left is the whole load. Assumes nothing.
use native.Mathlib.Omega.{arith}
use Rattle.models.specs.Load.{load_of, up-to-more}
use Rattle.evaluation.proofs.Loading.{load-on, load-end}
use Rattle.evaluation.proofs.load.load_of.Goals as goal

pub loop-cid-preserved : goal.loop-cid-preserved
loop-cid-preserved c =
    let in-loop = c in
    let x = in-loop.loop-cid in
    let a = in-loop.args in
    let more = c.plus-load.ensures in
    let turn =
    load-on a.demands.now a.calls.now x.cid-index (load_of x.load) _ _ _ in-loop.loop-cid-test.true more.result_value c.demand_at.ensures x.invariant.1 in
    (more.by_index x.cid-index x.invariant.0, turn)

pub returns : goal.returns
returns c =
    let s = c in
    let a = s.args in
    let x = c.loop-cid in
    let few = up-to-more x.cid-index 128 (load_of x.load) (omega (arith, s.requires)) x.invariant.0 in
    (load-end a.demands.now a.calls.now x.cid-index (load_of x.load) _ c.loop-cid-test.false x.invariant.1, few)
