-- `refill::clear` meets its contract. The loop's invariant is `Clearing`: the cells up to k are cleared. Assumes nothing.
use native.Mathlib.Omega.{arith}
use mathlib.Core.Path.{refl}
use mathlib.Core.Bool.{false}
use lib.Ieee.{inf, nan, of_bits, of_int}
use Rattle.whole.specs.Whole.{fl}
use Rattle.cut_drops.proofs.Clearing.{one-cleared}
use Rattle.cut_drops.proofs.refill.clear.Goals as goal

pub loop-k-preserved : goal.loop-k-preserved
unfolding fl of_bits of_int
loop-k-preserved c =
    let l = c.loop-k in
    let a = c.args in
    let v = l.invariant in (
      one-cleared a.from (inf false) nan a.cost.now l.k l.cost v.0 (omega arith) (omega arith) _ c.infinity-top.ensures,
      one-cleared a.from (fl 0) nan a.dist.now l.k l.dist v.1 (omega arith) (omega arith) _ refl,
      one-cleared a.from 0 0 a.pred.now l.k l.pred v.2 (omega arith) (omega arith) 0 refl,
    )
