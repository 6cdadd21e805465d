-- `sheet::bad_head` meets its contract. Assumes nothing.
use mathlib.Core.Path.{◌∙◌}
use mathlib.Core.List.{[], ◌∷◌}
use Rattle.refuse_numbers.proofs.Joining.{join}
use mathlib.Core.Bool.{not}
use Rattle.refuse_order.specs.Order.{bad_head}
use Rattle.refuse_order.proofs.sheet.bad_head.Goals as goal

pub returns : goal.returns
unfolding bad_head
returns c =
    -- behind each test, from the last
    let duration = c in
    let distance = duration in
    let fixed = distance in
    let capacity = fixed in
    let places = capacity in
    join (not places.is_places.result)
    (not capacity.may_be_held.result
    ∷ fixed.unfit_number.result
    ∷ distance.bad_limit.result
    ∷ duration.bad_limit-2.result
    ∷ c.bad_break.result
    ∷ [])
    ∙ rw (
      places.is_places.ensures,
      capacity.may_be_held.ensures,
      fixed.unfit_number.ensures,
      distance.bad_limit.ensures,
      duration.bad_limit-2.ensures,
      c.bad_break.ensures,
    )
