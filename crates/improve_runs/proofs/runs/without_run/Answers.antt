-- `runs::without_run` meets its contract. Assumes nothing.
-- ---- where the run's start is known, and from each list that is written
use Prim.Native.Nat.{ℕ, ◌+◌, ◌-◌, ◌≤◌}
use native.Mathlib.Omega.{arith}
use mathlib.Core.Path.{◌≡◌, refl, sym}
use lib.ListN.{length, get_or, take}
use lib.Seq.{length-take-le}
use Rattle.improve_runs.specs.RunLists.{Runs, runs, runs_in, run_at}
use Rattle.improve_runs.proofs.Fronts.{part-short, pasted-twice}
use Rattle.improve_runs.proofs.Holding.{sound, same_runs}
use Rattle.improve_runs.proofs.Changing.{run-bound, end_is, ends-later, less-held}
use Rattle.improve_runs.proofs.runs.without_run.Goals as goal
use Rattle.improve_runs.proofs.runs.without_run.Goals.{After-place_before-from, Start}

abbrev old : Start → Runs
old s = let a = s.args in runs a.calls.now a.ends.now a.many a.count

abbrev from : After-place_before-from → ℕ
from c = c.place_before-from.result

abbrev to : After-place_before-from → ℕ
to c = let a = c.args in get_or a.ends.now a.r 0

abbrev bound : (c : After-place_before-from) →
    let a = c.args in
    (from c ≤ to c) × (to c ≤ a.many) × (to c - from c ≡ length (run_at (runs_in (runs a.calls.now a.ends.now a.many a.count)) a.r))
bound c =
    let s = c in
    let a = s.args in
    run-bound (runs a.calls.now a.ends.now a.many a.count) a.r (from c) (to c) s.requires.sound c.place_before-from.ensures (end_is a.ends.now a.r)

pub slice_bounds-paste-end : goal.slice_bounds-paste-end
slice_bounds-paste-end c =
    let k = c in
    let S = k.requires.sound.0 in
    sym (length-take-le _ _ (omega (arith, (bound (goal.at.slice_bounds-paste-end c).After-place_before-from).0, (bound (goal.at.slice_bounds-paste-end c).After-place_before-from).1, S.calls-fit, S.calls-long)))

pub paste-requires-2 : goal.paste-requires-2
paste-requires-2 c =
    let pasted = c in
    let k = pasted in
    let s = k in
    let a = s.args in
    (pasted.paste.ensures.long, omega (arith, part-short a.calls.now (to (goal.at.paste-requires-2 c).After-place_before-from) a.many, (bound (goal.at.paste-requires-2 c).After-place_before-from).0, (bound (goal.at.paste-requires-2 c).After-place_before-from).1, s.requires.sound.0.calls-fit))

pub paste_moved-requires : goal.paste_moved-requires
paste_moved-requires c =
    let pasted = c in
    let k = pasted in
    let s = k in
    let a = s.args in
    let S = s.requires.sound.0 in record { to_len = (pasted.paste-3.ensures.long, omega (arith, part-short a.ends.now (a.r + 1) a.count, s.requires.sound.1, S.runs_fit)); by_index = λ j h. omega (arith, (bound (goal.at.paste_moved-requires c).After-place_before-from).2, ends-later (old (goal.at.paste_moved-requires c).Start) S a.r s.requires.sound.1 _ refl j h) }

pub returns : goal.returns
returns c =
    let moved = c in
    let p3 = moved in
    let p2 = p3 in
    let p1 = p2 in
    let k = p1 in
    let s = k in
    let a = s.args in
    let S = s.requires.sound.0 in
    let b = bound (goal.at.returns c).After-place_before-from in
    let calls-first = length-take-le (from (goal.at.returns c).After-place_before-from) a.calls.now (omega (arith, b.0, b.1, S.calls-fit, S.calls-long)) in
    let ends-first = length-take-le a.r a.ends.now (omega (arith, s.requires.sound.1, S.runs_fit, S.ends-long)) in
    let C = pasted-twice _ _ (take (from (goal.at.returns c).After-place_before-from) a.calls.now) _ (from (goal.at.returns c).After-place_before-from) calls-first p1.paste.ensures p2.paste-2.ensures in
    let E = pasted-twice _ _ (take a.r a.ends.now) _ a.r ends-first p3.paste-3.ensures moved.paste_moved.ensures in
    let H = less-held (old (goal.at.returns c).Start) S a.r s.requires.sound.1 (from (goal.at.returns c).After-place_before-from) (to (goal.at.returns c).After-place_before-from) k.place_before-from.ensures (end_is a.ends.now a.r) _ _ C E in
    record { sound = sound _ _ H; is = same_runs _ _ H; fewer = omega (arith, b.0, b.1, b.2) }

pub offset_bounds-calls-to : goal.offset_bounds-calls-to
offset_bounds-calls-to c = record { fits = omega (arith, (bound (goal.at.offset_bounds-calls-to c).After-place_before-from).1, c.requires.sound.0.calls-fit) }

pub slice_bounds-paste-count : goal.slice_bounds-paste-count
slice_bounds-paste-count c = (bound (goal.at.slice_bounds-paste-count c).After-place_before-from).1

pub slice_bounds-paste-start : goal.slice_bounds-paste-start
slice_bounds-paste-start c = (bound (goal.at.slice_bounds-paste-start c).After-place_before-from).1

pub overflow_sub-to : goal.overflow_sub-to
overflow_sub-to c = (bound (goal.at.overflow_sub-to c).After-place_before-from).0

pub overflow_sub-result : goal.overflow_sub-result
overflow_sub-result c = (bound (goal.at.overflow_sub-result c).After-place_before-from).0

pub overflow_sub-result-2 : goal.overflow_sub-result-2
overflow_sub-result-2 c =
    let b = bound (goal.at.overflow_sub-result-2 c).After-place_before-from in
    omega (arith, b.0, b.1)
