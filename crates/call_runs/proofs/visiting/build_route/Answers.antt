-- `visiting::build_route` meets its contract. Assumes nothing.
use Prim.Native.Nat.{ℕ}
use mathlib.Core.Path.{subst}
use mathlib.Core.List.{List}
use Rattle.models.specs.Load.{space_of}
use Rattle.evaluation.specs.Records.{lent, limits_of}
use Rattle.visits.specs.Building.{Builds}
use Rattle.call_runs.proofs.RouteAnswers.{run-read, refused-lists, given-lists}
use Rattle.call_runs.proofs.visiting.build_route.Goals as goal

pub returns-then-number-ne0 : goal.returns-then-number-ne0
returns-then-number-ne0 c =
    let told = c.refuse_visiting-number in
    let a = c.args in
    refused-lists a.head a.all a.n a.distances.now a.times.now a.run.now a.visits a.violations told.result told.ensures.refused
    c.if-number-ne0.true c.refused.result c.refused.ensures

pub returns : goal.returns
returns c =
    let told = c.refuse_visiting-number in
    let a = c.args in
    let built = c.build_route-built in
    let run = run-read a.head a.all a.n a.distances.now a.times.now a.run.now a.visits a.violations told.result told.ensures.refused
    c.if-number-ne0.false c.well_formed.1.0.1.0.1 c.widen-k.new.numbers c.widen-k.result c.widen-k.ensures.counted c.widen-k.ensures.read in
    let t = lent a.all a.distances.now a.times.now a.head.places in
    let builds = subst (λ (l : List ℕ). Builds t (space_of a.head.capacity) (limits_of a.head.limits) l built.result) run built.ensures in
    given-lists a.head a.all a.n a.distances.now a.times.now a.run.now a.visits a.violations told.result told.ensures.refused
    told.ensures.image c.if-number-ne0.false built.result builds c.gives.result c.gives.ensures
