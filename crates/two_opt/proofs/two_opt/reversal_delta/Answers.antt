-- `two_opt::reversal_delta` meets its contract. The loop's invariant: what is left of the segment, from here, comes to what the whole segment does. Assumes nothing.
use Prim.Native.Nat.{ℕ}
use native.Mathlib.Omega.{arith}
use mathlib.Core.Path.{sym, ap, ◌∙◌}
use lib.ListN.{get_or, take, drop}
use lib.Ieee.{Float}
use Rattle.whole.proofs.Bits.{fl-zero}
use Rattle.distance.specs.Lookup.{number_f}
use Rattle.two_opt.specs.Delta.{turned_legs_f, reversal_delta_f}
use Rattle.two_opt.proofs.TurnedLegs.{turned-legs-turn, turned-legs-end}
use Rattle.two_opt.proofs.two_opt.reversal_delta.Goals as goal

pub returns-then-symmetric : goal.returns-then-symmetric
unfolding reversal_delta_f
returns-then-symmetric c = rw c.if-symmetric.true (sym fl-zero)

pub loop-prev-preserved : goal.loop-prev-preserved
loop-prev-preserved c =
    let l = c.loop-prev in
    let left = l.prev-iterator.parts.rest.now in
    let steps = c.in-Some.ensures.steps in
    let pair = steps.1.1 ∙ ap (λ (n : ℕ). take n left) l.invariant.0 in
    let turn = turned-legs-turn (number_f c.args.distances.now c.args.size) l.sum left _ _ _ _ (omega (arith, steps.1.0, l.invariant.0)) pair steps.1.2 c.open_leg-back.ensures c.open_leg.ensures in
    (steps.0 ∙ l.invariant.0, sym turn ∙ l.invariant.1)

pub returns : goal.returns
unfolding reversal_delta_f
returns c =
    let l = c.loop-prev in
    let a = c.args in
    let leg = number_f a.distances.now a.size in
    let segment = a.segment.now in
    let left = l.prev-iterator.parts.rest.now in
    rw c.if-symmetric.false
    (sym (turned-legs-end leg l.sum left (omega (arith, c.in-None.ensures.steps.1, l.invariant.0)))
    ∙ l.invariant.1
    ∙ ap (λ (x : Float). turned_legs_f leg x (get_or segment 0 0) (drop 1 segment)) (sym fl-zero))
