-- `runs::runs_text` meets its contract. Assumes nothing.
-- the entry, before the five lent slices
use mathlib.Core.Path.{sym, ◌∙◌}
use Rattle.test_runs.specs.Runs.{given_in}
use Rattle.test_runs.proofs.Along.{joined, done}
use Rattle.test_runs.proofs.Turns.{walkable}
use Rattle.test_runs.proofs.Open.{taken-open}
use Rattle.test_runs.proofs.runs.runs_text.Goals as goal

pub each_run-end-requires : goal.each_run-end-requires
each_run-end-requires c = record { all_len_bound = walkable c.requires; drivable = tt }

pub returns-then-is_unimproved : goal.returns-then-is_unimproved
returns-then-is_unimproved c =
    let test = c in
    let second = test in
    let e = sym test.is_unimproved.ensures ∙ c.if-is_unimproved.true in
    rw e (done _ _ _ (joined _ _ _ _ second.each_run-end.ensures second.each_run-end-2.ensures))

pub improved_text-requires : goal.improved_text-requires
improved_text-requires c =
    let test = c in
    let first = test in
    let s = first in
    let a = s.args in
    record { run_list = s.requires; all_open = taken-open (given_in a.held a.distances.now a.times.now) (sym test.is_unimproved.ensures ∙ c.if-is_unimproved.false) }

pub returns : goal.returns
returns c =
    let test = c in
    let second = test in
    let e = sym test.is_unimproved.ensures ∙ c.if-is_unimproved.false in
    rw e (joined _ _ _ _ (joined _ _ _ _ second.each_run-end.ensures second.each_run-end-2.ensures) c.improved_text.ensures)

pub each_run-end-requires-2-clause-all_len_bound : goal.each_run-end-requires-2-clause-all_len_bound
each_run-end-requires-2-clause-all_len_bound c = walkable c.requires
