-- `run::placed` meets its contract. Assumes nothing.
use mathlib.Core.Path.{refl, ◌≡◌}
use Rattle.std.specs.Prelude.{None, Some}
use Prim.Native.Nat.{ℕ, zero, suc}
use lib.Dec.{leb}
use lib.Ieee.{Float}
use Rattle.definitions.specs.Sheet.{BreakOf}
use Rattle.marker.specs.RunMark.{placed_f}
use borrow.Author.Rules.{rules}
use Rattle.marker.proofs.run.placed.Goals as goal

taken_at : (b : BreakOf Float) (place n : ℕ) (duration : Float) → (place ≡ 0 → ⊥) → leb place n ≡ placed_f (Some b) place n duration
unfolding placed_f
taken_at b zero n duration h = absurd (h refl)
taken_at b (suc k) n duration h = refl

pub returns-in_default : goal.returns-in_default
unfolding placed_f
returns-in_default c = let e : c.args.rest ≡ None = search rules in rw e

pub returns-then-place-eq0 : goal.returns-then-place-eq0
unfolding placed_f
returns-then-place-eq0 c =
    let a = c.args in
    let e : a.rest ≡ Some c.in-Some.b = search rules in
    rw (e, c.if-place-eq0.true) c.excused.ensures

pub returns : goal.returns
returns c =
    let a = c.args in
    let e : a.rest ≡ Some c.in-Some.b = search rules in
    rw e (taken_at _ a.place a.calls a.duration c.if-place-eq0.false)
