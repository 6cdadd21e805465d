-- `hold::hold` meets its contract: the calls are numbered, their legs written, and the rest is `drop_stuck`. Assumes nothing.
use native.Mathlib.Omega.{arith}
use mathlib.Core.Path.{refl}
use Rattle.distance.specs.Lookup.{drive_f}
use Rattle.cut_stops.specs.Stops.{leg_lists}
use Rattle.cut_drops.proofs.Noting.{legs-begun}
use Rattle.cut_drops.proofs.Settling.{numbered}
use Rattle.cut_drops.proofs.hold.hold.Goals as goal

pub drop_stuck-requires : goal.drop_stuck-requires
drop_stuck-requires c =
    let g = c in
    let m = g in
    let s = m in
    let a = s.args in
    record {
      front = s.requires.front;
      positions-long = omega arith;
      positions-are = numbered a.n _ _ m.number.ensures;
      reach-long = refl;
      legs-long = g.write_legs.ensures.long;
      legs-are = legs-begun (drive_f a.distances.now a.times.now a.size) _ a.n (leg_lists _ _) (leg_lists _ _) g.write_legs.ensures;
      unfilled = s.requires.unfilled;
      lists = s.requires.fact;
    }
