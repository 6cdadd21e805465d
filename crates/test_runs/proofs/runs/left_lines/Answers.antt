-- `runs::left_lines` meets its contract. Assumes nothing.
-- the entry, before the lent slices and the two lists
-- what elimination gave, before its calls are lent
use Prim.Native.Nat.{ℕ}
use native.Mathlib.Omega.{arith}
use mathlib.Core.Path.{◌≡◌, ap, ◌∙◌}
use mathlib.Core.List.{List}
use lib.ListN.{length}
use Rattle.test_runs.specs.declared.runs.Topic.TheVariants.{Calls}
use Rattle.test_runs.specs.Along.{follows}
use Rattle.test_runs.specs.Words.{each}
use Rattle.test_runs.specs.Runs.{given_in, run_words}
use Rattle.test_runs.proofs.Left.{ends-inside, ends-counted, few-calls, ends-rise, runs-are}
use borrow.Author.Rules.{rules}
use Rattle.test_runs.proofs.runs.left_lines.Goals as goal

pub slice_bounds-left_ends-end : goal.slice_bounds-left_ends-end
slice_bounds-left_ends-end c = ends-inside c.eliminated-left.ensures

pub slice_bounds-each_run-end-2 : goal.slice_bounds-each_run-end-2
slice_bounds-each_run-end-2 c = ends-counted c.eliminated-left.ensures

pub each_run-requires : goal.each_run-requires
each_run-requires c =
    let x = c in
    let long : length x.eliminated-left.new.left_calls ≡ 128 = search rules in
    record { all_len_bound = (omega (arith, few-calls x.eliminated-left.ensures, long), ends-rise x.eliminated-left.ensures); drivable = tt }

pub returns : goal.returns
returns c =
    let x = c in
    let a = x.args in
    c.each_run.ensures
    ∙ ap (λ (rs : List (List ℕ)). follows a.recorded.now a.at (each (run_words (given_in a.held a.distances.now a.times.now) Calls) rs)) (runs-are x.eliminated-left.ensures)
