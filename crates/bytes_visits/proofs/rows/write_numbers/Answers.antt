-- `rows::write_numbers` meets its contract. Assumes nothing.
use Prim.Native.Nat.{ℕ, ◌<◌}
use native.Mathlib.Omega.{arith}
use mathlib.Core.Path.{refl, ap, ◌∙◌}
use mathlib.Core.List.{[], ◌∷◌}
use lib.ListN.{length-take}
use Rattle.visits.specs.Figures.{number_in}
use Rattle.bytes_visits.proofs.Writing.{begun, turn_one, read_front}
use Rattle.bytes_visits.proofs.rows.write_numbers.Goals as goal

pub loop-i-init : goal.loop-i-init
loop-i-init c = begun _ _ _ _ (omega (arith, c.requires.1))

pub loop-i-preserved : goal.loop-i-preserved
loop-i-preserved c =
    let x = c.loop-i in
    let a = c.args in
    let more : x.i < a.n = omega (arith, length-take a.n a.list) in
    turn_one _ _ _ _ _ (λ j. refl) _
    (ap (λ (m : ℕ). m ∷ []) (c.number_of.ensures ∙ read_front (λ v. number_in v.kind) 0 a.n a.list x.i _ _ c.loop-i-test.true)) more x.invariant
