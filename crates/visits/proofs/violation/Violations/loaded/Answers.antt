-- `Violations::loaded` meets its contract. Assumes nothing.
use Rattle.visits.proofs.Checking.{one_more, all-loaded}
use Rattle.models.specs.Load.{space_of, load_of}
use mathlib.Core.Path.{ap}
use mathlib.Core.Bool.{not}
use native.Mathlib.Omega.{arith}
use Rattle.visits.proofs.violation.Violations.loaded.Goals as goal

pub pushed-requires : goal.pushed-requires
pushed-requires c =
    let seats = c in
    let S = seats in
    (seats.pushed-seated.ensures.long, omega (arith, S.requires.1, one_more _ _ _ _ seats.pushed-seated.ensures))

pub returns : goal.returns
returns c =
    let places = c in
    let seats = places in
    let a = seats.args in
    all-loaded (load_of a.load) (space_of a.capacity) _ _ _ _ _
    (ap not seats.seated.ensures) seats.pushed-seated.ensures (ap not places.wheeled.ensures) c.pushed.ensures
