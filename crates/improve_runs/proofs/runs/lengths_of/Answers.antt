-- `runs::lengths_of` meets its contract. The loop's invariant is `Measuring`: the lengths of the first k runs are in. Assumes nothing.
use Prim.Native.Nat.{◌<◌}
use native.Mathlib.Omega.{arith}
use mathlib.Core.Path.{refl}
use lib.ListN.{length-take}
use lib.Seq.{get_or-take}
use Rattle.improve_runs.proofs.Keeping.{measuring-none, measuring-more}
use Rattle.improve_runs.proofs.runs.lengths_of.Goals as goal

pub loop-k-init : goal.loop-k-init
loop-k-init c = measuring-none _ _ refl

pub loop-k-preserved : goal.loop-k-preserved
loop-k-preserved c =
    let a = c.args in
    let l = c.loop-k in
    let inside : l.k < a.count = omega (arith, length-take a.count a.ends.now) in
    rw (get_or-take a.count a.ends.now l.k 0 inside) (measuring-more a.ends.now l.k l.prev l.lengths l.invariant (omega arith))
