-- A sheet that the improvers take closes no leg. Assumes nothing.
use mathlib.Core.Path.{◌≡◌}
use mathlib.Core.Bool.{false}
use Rattle.basics.proofs.TestLaws.{or_right}
use Rattle.improve_base.specs.Leg.{AllOpen, shut}
use Rattle.improve_base.proofs.OpenLegs.{both-open}
use Rattle.place_choice.specs.Insertion.{GivenF}
use Rattle.test_runs.specs.Runs.{pays, unimproved}

pub taken-open : (G : GivenF) → unimproved G ≡ false → AllOpen G.tables.distances × AllOpen G.tables.times
taken-open G e =
    let t = G.tables in
    both-open t.distances t.times (or_right (pays G) (shut t.distances t.times) e)
