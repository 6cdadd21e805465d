-- `gain::scale` meets its contract. The loop's invariant: the largest of what is left, four at a time, and of what was found, is that of the
-- whole table. Assumes nothing.
use Prim.Native.Nat.{ℕ, ◌*◌, ◌/◌}
use native.Mathlib.Omega.{arith}
use mathlib.Core.Path.{◌≡◌, sym, ap, ap₂, ◌∙◌}
use mathlib.Core.List.{List}
use lib.ListN.{length, drop, length-drop}
use lib.Ieee.{Float}
use Rattle.whole.proofs.Bits.{fl-zero}
use Rattle.whole.specs.Larger.{larger_f}
use Rattle.improve_base.specs.Gain.{largest_f, largest_by_four_f, scale_f}
use Rattle.improve_base.proofs.Reckoning.{four-more, four-end}
use Rattle.improve_base.proofs.gain.scale.Goals as goal

pub loop-a-init : goal.loop-a-init
unfolding scale_f
loop-a-init c = ap (λ (x : Float). largest_by_four_f x x x x c.args.distances.now) (sym fl-zero)

pub loop-a-preserved : goal.loop-a-preserved
loop-a-preserved c =
    let l = c.loop-a in
    let a = c.args in
    let cut = c.as_chunks.ensures in
    let turn = four-more a.distances.now _ (length a.distances.now / 4) cut.front (omega arith) l.a-index (omega arith) l.first l.second l.third l.fourth _ _ _ _
    c.larger-first.ensures c.larger-second.ensures c.larger-third.ensures c.larger-fourth.ensures in
    sym turn ∙ l.invariant

pub returns : goal.returns
returns c =
    let l = c.loop-a in
    let a = c.args in
    let cut = c.as_chunks.ensures in
    let left : List Float = drop (l.a-index * 4) a.distances.now in
    let done : length a.distances.now / 4 ≡ l.a-index = omega arith in
    let rest = cut.back ∙ ap (λ (n : ℕ). drop (n * 4) a.distances.now) done in
    let most = c.larger-most.ensures ∙ ap₂ larger_f c.larger.ensures c.larger-2.ensures in
    c.largest_from.ensures ∙ ap₂ largest_f most rest
    ∙ sym (four-end a.distances.now l.first l.second l.third l.fourth left (omega (arith, length-drop (l.a-index * 4) a.distances.now)))
    ∙ l.invariant
