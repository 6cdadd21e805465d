-- `rest::rest_at` meets its contract. Assumes nothing.
use Rattle.visits.specs.Visiting.{rest_at_f}
use Rattle.visits.proofs.rest.rest_at.Goals as goal

pub returns : goal.returns
unfolding rest_at_f
returns c =
    rw (
      ← c.placed-found.ensures,
      ← c.place_of-place.ensures,
      ← c.start_of-start.ensures,
      ← c.duration_of.ensures,
      ← c.is_missing.ensures,
    )
