-- `backward::bounds_from` meets its contract. Assumes nothing.
use Rattle.latest.proofs.Walking.{back-first, back_more}
use Rattle.latest.specs.Floats.{day_in}
use Rattle.cut_stops.specs.Stops.{numbers, listed}
use Rattle.evaluation.specs.Records.{Tables}
use native.Mathlib.Omega.{arith}
use Rattle.latest.proofs.backward.bounds_from.Goals as goal
use Rattle.latest.proofs.backward.bounds_from.Goals.{Start}

abbrev tables : Start → Tables
tables s = let a = s.args in listed (numbers a.codes.now a.figures.now) a.distances.now a.times.now a.size

pub loop-i-init : goal.loop-i-init
loop-i-init c =
    let s = c in
    back-first (tables (goal.at.loop-i-init c).Start) (day_in s.args.day) s.args.route.now s.args.pos s.requires.long.1 _ c.home-bounds.ensures

pub loop-i-preserved : goal.loop-i-preserved
loop-i-preserved c =
    let inside = c in
    let at = inside in
    let l = at.loop-i in
    let s = at in
    back_more (tables (goal.at.loop-i-preserved c).Start) (day_in s.args.day) s.args.route.now s.args.pos l.i l.next _ l.invariant inside.loop-i-test.true _
    (omega (arith, inside.loop-i-test.true)) _ c.back_to-bounds.ensures
