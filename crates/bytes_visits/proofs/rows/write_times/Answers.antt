-- `rows::write_times` meets its contract. Assumes nothing.
use mathlib.Core.Path.{refl}
use Prim.Native.Nat.{◌<◌}
use native.Mathlib.Omega.{arith}
use lib.ListN.{length-take}
use lib.Seq.{get_or-take}
use Rattle.bytes_visits.proofs.Writing.{begun, turn_three}
use Rattle.bytes_visits.proofs.rows.write_times.Goals as goal

pub loop-i-init : goal.loop-i-init
loop-i-init c = begun _ _ _ _ c.requires.1

pub loop-i-preserved : goal.loop-i-preserved
loop-i-preserved c =
    let x = c.loop-i in
    let more : x.i < c.args.n = omega (arith, length-take c.args.n c.args.visits) in
    turn_three _ _ _ _ _ (λ j. refl) _ _ _ (rw get_or-take refl) more x.invariant _ c.put_three.ensures
