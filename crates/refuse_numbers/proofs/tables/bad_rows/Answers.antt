-- `tables::bad_rows` meets its contract. Assumes nothing.
use mathlib.Core.Path.{◌≡◌, sym, ap₂, ◌∙◌}
use mathlib.Core.Bool.{Bool, ◌||◌}
use native.Mathlib.Omega.{arith}
use Rattle.definitions.specs.Domain.{is_leg}
use Rattle.definitions.specs.Refusals.{unfit}
use Rattle.whole.specs.Value.{value}
use Rattle.refuse_numbers.proofs.Rows.{found, turn, ended, rows-so-far}
use Rattle.refuse_numbers.proofs.tables.bad_rows.Goals as goal

-- what the looks at both rows say together
either-row : {a b x y : Bool} → a ≡ x → b ≡ y → x || y ≡ a || b
either-row h g = ap₂ (λ (a b : Bool). a || b) (sym h) (sym g)

pub returns-then-bad_numbers : goal.returns-then-bad_numbers
returns-then-bad_numbers c =
    let a = c.args in
    let s = either-row c.bad_numbers.ensures c.bad_numbers-in-loop.ensures ∙ c.if-bad_numbers.true in
    let e = found c.loop.invariant (omega arith) c.fewer-m.ensures c.fewer-n.ensures s in
    record { value = e; result_value = e ∙ rows-so-far (unfit value is_leg) a.size a.k a.distances.now a.times.now }

pub loop-preserved : goal.loop-preserved
loop-preserved c =
    let s = either-row c.bad_numbers.ensures c.bad_numbers-in-loop.ensures ∙ c.if-bad_numbers.false in
    turn c.loop.invariant (omega arith) c.fewer-m.ensures c.fewer-n.ensures s

pub returns : goal.returns
returns c =
    let a = c.args in
    let e = ended c.loop.invariant (omega arith) in
    record { value = e; result_value = e ∙ rows-so-far (unfit value is_leg) a.size a.k a.distances.now a.times.now }
