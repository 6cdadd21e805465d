-- `recorded::calls` meets its contract. The loop's invariant: from here on the numbers that are left lead where all of them lead from the start. Assumes nothing.
use Prim.Native.Nat.{ℕ}
use native.Mathlib.Omega.{arith}
use mathlib.Core.Path.{sym, ap, ◌∙◌}
use mathlib.Core.List.{[], ◌∷◌}
use Rattle.definitions.specs.Listing.{spaced, end_of_line}
use Rattle.test_runs.specs.Along.{follow, follows}
use Rattle.test_runs.specs.Words.{numbers}
use Rattle.test_runs.proofs.Along.{follows_both, each_more, each-done}
use Rattle.test_runs.proofs.recorded.calls.Goals as goal

pub loop-call-preserved : goal.loop-call-preserved
unfolding follows
loop-call-preserved c =
    let l = c.loop-call in
    let a = c.args in
    rw c.number-end.ensures (sym (each_more a.recorded.now (λ n. spaced n ∷ []) a.run.now l.end l.call-index 0 (omega arith)) ∙ l.invariant)

pub returns : goal.returns
unfolding follows
returns c =
    let l = c.loop-call in
    let a = c.args in
    let e = sym (each-done a.recorded.now (λ n. spaced n ∷ []) a.run.now l.end l.call-index (omega arith)) ∙ l.invariant in
    c.word.ensures ∙ ap (λ (n : ℕ). follow a.recorded.now n end_of_line) e ∙ sym (follows_both a.recorded.now a.at (numbers a.run.now) (end_of_line ∷ []))
