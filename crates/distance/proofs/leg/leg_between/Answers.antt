-- `leg::leg_between` meets its contract. Assumes nothing.
use mathlib.Core.Path.{◌≡◌}
use borrow.Author.Rules.{rules}
use Rattle.std.specs.Prelude.{None, Some}
use Rattle.distance.specs.Lookup.{drive_f}
use Rattle.distance.proofs.leg.leg_between.Goals as goal

pub returns-in_err-distance : goal.returns-in_err-distance
unfolding drive_f
returns-in_err-distance c =
    let e : c.get.result ≡ None = search rules in
    rw (c.from_residual.ensures, ← c.get.ensures, e)

pub returns-in_err-time : goal.returns-in_err-time
unfolding drive_f
returns-in_err-time c =
    let d : c.get.result ≡ Some c.in_ok-distance.distance = search rules in
    let t : c.travel_time.result ≡ None = search rules in
    rw (c.from_residual-in_err-time.ensures, ← c.get.ensures, d, ← c.travel_time.ensures, t)

pub returns : goal.returns
unfolding drive_f
returns c =
    let d : c.get.result ≡ Some c.in_ok-distance.distance = search rules in
    let t : c.travel_time.result ≡ Some c.in_ok-time.time = search rules in
    rw (← c.get.ensures, d, ← c.travel_time.ensures, t)
