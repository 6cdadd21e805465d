-- `loads::loads_of` meets its contract. The loop's invariant: the loads of the first k runs are in. Assumes nothing.
-- ---- the places on the way
use Prim.Native.Nat.{ℕ, ◌-◌, ◌≤◌}
use native.Mathlib.Omega.{arith}
use mathlib.Core.Path.{◌≡◌, refl}
use mathlib.Core.List.{List}
use lib.ListN.{length, get_or, take, drop}
use Rattle.evaluation.specs.Tables.{place_before}
use Rattle.improve_runs.specs.RunLists.{start_in, runs, runs_in, run_at}
use Rattle.improve_runs.proofs.Holding.{held}
use Rattle.improve_runs.proofs.Changing.{run-bound, run_lent, end_is}
use Rattle.place_choice.proofs.Loading.{loaded-none, loaded-next, loaded-all, run-load}
use Rattle.place_choice.proofs.loads.loads_of.Goals as goal
use Rattle.place_choice.proofs.loads.loads_of.Goals.{In-loop-k}

abbrev bound : (c : In-loop-k) →
    let l = c.loop-k in
    let to = get_or c.args.ends.now l.k 0 in
    (l.from ≤ to) × (to ≤ c.args.many) × (to - l.from ≡ length (run_at (runs_in (runs c.args.calls.now c.args.ends.now c.args.many c.args.count)) l.k))
bound c =
    let l = c.loop-k in
    let s = c in
    run-bound (runs s.args.calls.now s.args.ends.now s.args.many s.args.count) l.k l.from (get_or s.args.ends.now l.k 0) (s.requires.0, c.loop-k-test.true) l.invariant.1 (end_is s.args.ends.now l.k)

abbrev lent-run : (c : In-loop-k) →
    let l = c.loop-k in
    let a = c.args in
    take (get_or a.ends.now l.k 0 - l.from) (drop l.from a.calls.now) ≡ run_at (runs_in (runs c.args.calls.now c.args.ends.now c.args.many c.args.count)) l.k
lent-run c =
    let l = c.loop-k in
    let s = c in
    run_lent (runs s.args.calls.now s.args.ends.now s.args.many s.args.count) l.k l.from (get_or s.args.ends.now l.k 0) (s.requires.0, c.loop-k-test.true) l.invariant.1 (end_is s.args.ends.now l.k)

starts_none : (ends : List ℕ) → 0 ≡ start_in ends 0
unfolding place_before
starts_none ends = refl

pub loop-k-init : goal.loop-k-init
loop-k-init c =
    let s = c in
    (omega arith, starts_none s.args.ends.now, loaded-none _ _ _ s.requires.1)

pub loop-k-preserved : goal.loop-k-preserved
loop-k-preserved c =
    let loaded = c in
    let t = loaded in
    let l = t.loop-k in
    let s = t in
    let is = run-load s.args.demands.now _ _ (lent-run (goal.at.loop-k-preserved t).In-loop-k) _ loaded.load_of-load.ensures.0 in (
      omega (arith, t.loop-k-test.true),
      end_is s.args.ends.now l.k,
      loaded-next _ _ _ _ l.k _ l.invariant.2 is loaded.load_of-load.ensures.1 c.put_load.ensures,
    )

pub returns : goal.returns
returns c =
    let at = c in
    let l = at.loop-k in
    let s = at in
    loaded-all _ _ _ l.k (omega (arith, c.loop-k-test.false, (held (runs s.args.calls.now s.args.ends.now s.args.many s.args.count) s.requires.0).count-is)) l.invariant.2

pub offset_bounds-calls-from : goal.offset_bounds-calls-from
offset_bounds-calls-from c =
    let b = bound (goal.at.offset_bounds-calls-from c).In-loop-k in
    omega (arith, b.0, b.1, c.requires.0.calls-fit)

pub slice_bounds-load_of-count : goal.slice_bounds-load_of-count
slice_bounds-load_of-count c = (bound (goal.at.slice_bounds-load_of-count c).In-loop-k).0

pub slice_bounds-load_of-start : goal.slice_bounds-load_of-start
slice_bounds-load_of-start c = (bound (goal.at.slice_bounds-load_of-start c).In-loop-k).0

pub slice_bounds-load_of-end : goal.slice_bounds-load_of-end
slice_bounds-load_of-end c =
    let b = bound (goal.at.slice_bounds-load_of-end c).In-loop-k in
    let h : get_or c.args.ends.now c.loop-k.k 0 ≤ length c.args.calls.now = omega (arith, b.1, c.requires.0.calls-fit, c.requires.0.calls-long) in
    h
