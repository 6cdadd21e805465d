-- `runs::insert` meets its contract. Assumes nothing.
-- ---- where the run's start is known, and from there on
use Prim.Native.Nat.{ℕ, ◌+◌, ◌<◌, ◌≤◌}
use native.Mathlib.Omega.{arith}
use mathlib.Core.Path.{ap}
use Rattle.improve_runs.specs.RunLists.{room, Runs, runs}
use Rattle.improve_runs.proofs.Holding.{sound, same_runs}
use Rattle.improve_runs.proofs.Changing.{put-bound, ends-small, put-held}
use Rattle.improve_runs.proofs.runs.insert.Goals as goal
use Rattle.improve_runs.proofs.runs.insert.Goals.{After-place_before, Start}

abbrev old : Start → Runs
old s = let a = s.args in runs a.calls.now a.ends.now a.many a.count

abbrev bound : (c : After-place_before) →
    let a = c.args in
    let at = c.place_before.result + a.pos in
    (at ≤ a.many) × (at < room)
bound c =
    let s = c in
    let a = s.args in
    put-bound (runs a.calls.now a.ends.now a.many a.count) a.k a.pos c.place_before.result s.requires c.place_before.ensures

pub put_before-requires : goal.put_before-requires
put_before-requires c = let s = c in (s.requires.0.calls-long, (bound (goal.at.put_before-requires c).After-place_before).0, s.requires.3)

pub raise-requires : goal.raise-requires
raise-requires c =
    let s = c in
    let S = s.requires.0 in
    record { ends_len = (S.ends-long, omega (arith, s.requires.1), S.runs_fit); by_index = ends-small (old (goal.at.raise-requires c).Start) S }

pub returns : goal.returns
returns c =
    let raised = c in
    let put = raised in
    let k = put in
    let s = k in
    let a = s.args in
    let at-is = ap (λ (n : ℕ). n + a.pos) k.place_before.ensures in
    let at = k.place_before.result + a.pos in
    let H =
    put-held (old (goal.at.returns c).Start) s.requires.0 a.k s.requires.1 a.pos a.c at s.requires.2 s.requires.3 at-is _ _ put.put_before.ensures raised.raise.ensures in
    record { sound = sound _ _ H; is = same_runs _ _ H }

pub overflow_add-at : goal.overflow_add-at
overflow_add-at c = let b = bound (goal.at.overflow_add-at c).After-place_before in record { fits = omega (arith, b.0, b.1) }
