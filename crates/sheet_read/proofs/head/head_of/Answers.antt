-- `head::head_of` meets its contract. Assumes nothing.
use Rattle.whole.specs.Whole.{fl}
use Rattle.definitions.specs.Reader.{sheet_of}
use Rattle.sheet_read.proofs.Reading.{get_or-value_or}
use Rattle.sheet_read.proofs.head.head_of.Goals as goal

pub returns : goal.returns
unfolding sheet_of fl
returns c =
    -- behind each part, from the last
    let duration = c in
    let distance = duration in
    let fixed = distance in
    let capacity = fixed in
    let seats = capacity in
    let places = seats in
    rw (
      places.or_zero-places.ensures,
      places.first_value.ensures,
      capacity.load_from-capacity.ensures,
      seats.or_zero-seats.ensures,
      seats.first_value-2.ensures,
      fixed.or_zero-fixed_cost.ensures,
      fixed.first_value-3.ensures,
      distance.limit_of-max_distance.ensures,
      distance.first_value-4.ensures,
      duration.limit_of-max_duration.ensures,
      duration.first_value-5.ensures,
      c.rest_of-rest.ensures,
    ) (simp get_or-value_or)
