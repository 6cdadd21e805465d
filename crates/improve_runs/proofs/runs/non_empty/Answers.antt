-- `runs::non_empty` meets its contract. The loop's invariant: of the first i runs, `Kept` says which ends are in. Assumes nothing.
use Prim.Native.Nat.{◌<◌}
use native.Mathlib.Omega.{arith}
use lib.ListN.{length-take}
use lib.Seq.{get_or-take}
use Rattle.improve_runs.specs.RunLists.{runs}
use Rattle.improve_runs.proofs.Holding.{sound, same_runs}
use Rattle.improve_runs.proofs.Keeping.{kept-none, kept_more, kept-all, end_read, counted-few}
use Rattle.improve_runs.proofs.runs.non_empty.Goals as goal

pub loop-end-init : goal.loop-end-init
loop-end-init c = (omega arith, λ calls many S. kept-none _ _ c.requires.2)

pub loop-end-preserved : goal.loop-end-preserved
loop-end-preserved c =
    let a = c.args in
    let l = c.loop-end in
    let inside : l.end-index < a.count = omega (arith, length-take a.count a.ends.now) in
    let read = get_or-take a.count a.ends.now l.end-index 0 inside in
    let counted = c.counted-n.ensures in (
      rw counted (counted-few l.prev _ l.n l.end-index l.invariant.0),
      λ calls many S.
          let e = end_read (runs calls a.ends.now many a.count) S l.end-index inside in
          rw (counted, read) (kept_more _ l.end-index l.n l.prev _ l.kept (l.invariant.1 calls many S) e.0 e.1 e.2),
    )

pub returns : goal.returns
returns c =
    let a = c.args in
    let l = c.loop-end in
    let many_ends = length-take a.count a.ends.now in
    λ calls many S.
    let H = kept-all (runs calls a.ends.now many a.count) S l.end-index l.n l.prev l.kept (l.invariant.1 calls many S) (omega arith) in
    record { sound = sound _ _ H; is = same_runs _ _ H }
