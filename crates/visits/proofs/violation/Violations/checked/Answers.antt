-- `Violations::checked` meets its contract. Assumes nothing.
-- the windows, and the break where none is
-- and each measure
use Rattle.visits.proofs.Checking.{one_more, two-more, break-room, all-checked}
use Rattle.models.specs.Load.{space_of, load_of}
use Rattle.evaluation.specs.Records.{limits_of}
use Prim.Native.Nat.{◌+◌, ◌≤◌}
use native.Mathlib.Omega.{arith}
use Rattle.visits.proofs.violation.Violations.checked.Goals as goal
use Rattle.visits.proofs.violation.Violations.checked.Goals.{After-loaded-loaded, After-pushed-placed}

with-break : (c : After-pushed-placed) → c.pushed-placed.result.count ≤ 128
with-break c =
    let told = c in
    let S = told in
    break-room _ _ S.args.missing _ _ told.reported.ensures c.pushed-placed.ensures S.requires.1

with-load : (c : After-loaded-loaded) → c.loaded-loaded.result.count ≤ 128 + 2
with-load c = omega (arith, with-break c.before, two-more _ _ _ _ c.loaded-loaded.ensures)

pub loaded-loaded-requires : goal.loaded-loaded-requires
loaded-loaded-requires c = (c.pushed-placed.ensures.long, omega (arith, with-break (goal.at.loaded-loaded-requires c).After-pushed-placed))

pub pushed-near-requires : goal.pushed-near-requires
pushed-near-requires c =
    let loaded = c in
    (loaded.loaded-loaded.ensures.long, omega (arith, with-load (goal.at.pushed-near-requires c).After-loaded-loaded))

pub pushed-requires : goal.pushed-requires
pushed-requires c =
    let near = c in
    (near.pushed-near.ensures.long, omega (arith, with-load (goal.at.pushed-requires c).After-loaded-loaded, one_more _ _ _ _ near.pushed-near.ensures))

pub returns : goal.returns
returns c =
    let late = c in
    let near = late in
    let far = near in
    let loaded = far in
    let placed = loaded in
    let told = placed in
    let S = told in
    let a = S.args in
    all-checked a.self _ _ _ _ a.missing (load_of a.load) (space_of a.capacity) (limits_of a.limits) a.distance a.duration S.requires.0 S.requires.1
    _ told.reported.ensures placed.pushed-placed.ensures loaded.loaded-loaded.ensures
    _ _ far.exceeds.ensures far.limit_or_zero.ensures near.pushed-near.ensures
    _ _ late.exceeds-2.ensures late.limit_or_zero-2.ensures c.pushed.ensures
