-- `route_elimination::is_finite` meets its contract. Assumes nothing.
use mathlib.Core.Path.{◌≡◌}
use mathlib.Core.Bool.{true, false}
use lib.Ieee.{Float, inf, lt, neg}
use Rattle.route_elimination.specs.Elimination.{finite_f}
use Rattle.route_elimination.proofs.route_elimination.is_finite.Goals as goal

below_top : (top x : Float) → top ≡ inf false → lt x top ≡ true → lt (neg top) x ≡ finite_f x
unfolding neg
below_top top x e t = rw (e, rw e at t)

not-below : (top x : Float) → top ≡ inf false → lt x top ≡ false → lt x top ≡ finite_f x
not-below top x e t = rw (t, rw e at t)

pub returns-then-x-top : goal.returns-then-x-top
returns-then-x-top c = below_top c.infinity-top.result c.args.x c.infinity-top.ensures c.if-x-top.true
