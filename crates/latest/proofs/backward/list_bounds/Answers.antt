-- `backward::list_bounds` meets its contract. Assumes nothing.
use Rattle.latest.proofs.Walking.{back-first, back_more, listed_more}
use Rattle.latest.specs.Floats.{day_in}
use Rattle.cut_stops.specs.Stops.{numbers, listed}
use Rattle.evaluation.specs.Records.{Tables}
use lib.ListN.{length}
use native.Mathlib.Omega.{arith}
use Prim.Native.Nat.{suc}
use Rattle.latest.proofs.backward.list_bounds.Goals as goal
use Rattle.latest.proofs.backward.list_bounds.Goals.{Start}

abbrev tables : Start → Tables
tables s = let a = s.args in listed (numbers a.codes.now a.figures.now) a.distances.now a.times.now a.size

pub loop-i-init : goal.loop-i-init
loop-i-init c =
    let s = c in
    let a = s.args in
    let n = length a.route.now in
    let B = back-first (tables (goal.at.loop-i-init c).Start) (day_in a.day) a.route.now a.pos s.requires.long.1 _ c.home-bounds.ensures in (
      B,
      listed_more (tables (goal.at.loop-i-init c).Start) (day_in a.day) a.route.now n (suc n) a.befores.now a.afters.now s.requires.befores_len.0 s.requires.befores_len.1 (omega (arith, s.requires.long.2))
          (λ k x y. absurd (omega arith)) (omega arith) _ B.are,
    )

pub loop-i-preserved : goal.loop-i-preserved
loop-i-preserved c =
    let inside = c in
    let at = inside in
    let l = at.loop-i in
    let s = at in
    let a = s.args in
    let L = l.invariant.1 in
    let B = back_more (tables (goal.at.loop-i-preserved c).Start) (day_in a.day) a.route.now a.pos l.i l.next _ l.invariant.0 inside.loop-i-test.true _
    (omega (arith, inside.loop-i-test.true)) _ c.back_to-bounds.ensures in (
      B,
      listed_more (tables (goal.at.loop-i-preserved c).Start) (day_in a.day) a.route.now _ l.i l.befores l.afters L.befores-long L.afters-long (omega (arith, B.inside, s.requires.long.2))
          L.are (omega (arith, inside.loop-i-test.true)) _ B.are,
    )
