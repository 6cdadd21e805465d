-- `rows::write_figures` meets its contract. Assumes nothing.
use Prim.Native.Nat.{◌<◌}
use native.Mathlib.Omega.{arith}
use mathlib.Core.Path.{◌∙◌}
use mathlib.Core.List.{[]}
use lib.ListN.{get_or, length-take}
use Rattle.visits.specs.Visiting.{blank_violation}
use Rattle.bytes_visits.specs.Rows.{figures_in}
use Rattle.bytes_visits.proofs.Writing.{begun, turn_three, read_front, three-figures}
use Rattle.bytes_visits.proofs.rows.write_figures.Goals as goal

pub loop-i-init : goal.loop-i-init
loop-i-init c = begun _ _ _ _ c.requires.1

pub loop-i-preserved : goal.loop-i-preserved
loop-i-preserved c =
    let x = c.loop-i in
    let a = c.args in
    let more : x.i < a.n = omega (arith, length-take a.n a.list) in
    let row = c.figures_of-row in
    turn_three _ _ _ _ _ (λ j. three-figures (get_or a.list j blank_violation).kind) _ _ _
    (row.ensures ∙ read_front (λ v. figures_in v.kind) [] a.n a.list x.i _ _ c.loop-i-test.true) more x.invariant _ c.put_three.ensures
