-- `search::search_of` meets its contract. Assumes nothing.
use Rattle.improve_base.specs.Search.{search_f}
use Rattle.improve_base.proofs.search.search_of.Goals as goal

pub returns : goal.returns
unfolding search_f
returns c = rw c.route_checks_needed.ensures
