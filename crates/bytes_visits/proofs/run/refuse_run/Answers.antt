-- `run::refuse_run` meets its contract. Assumes nothing.
use native.Mathlib.Omega.{arith}
use mathlib.Core.Path.{sym, ◌∙◌}
use Rattle.bytes_visits.proofs.Refusing.{refused-run, refused-place, accepted-run}
use Rattle.bytes_visits.proofs.run.refuse_run.Goals as goal

pub returns-then-bad_run_list : goal.returns-then-bad_run_list
returns-then-bad_run_list c = refused-run _ _ _ _ (sym c.bad_run_list.ensures ∙ c.if-bad_run_list.true)

pub returns-then-last_place-place : goal.returns-then-last_place-place
returns-then-last_place-place c =
    let fit = sym c.bad_run_list.ensures ∙ c.if-bad_run_list.false in
    refused-place _ _ _ _ fit (omega (arith, c.last_place.ensures, c.if-last_place-place.true))

pub returns : goal.returns
returns c =
    let fit = sym c.bad_run_list.ensures ∙ c.if-bad_run_list.false in
    accepted-run _ _ _ _ fit (omega (arith, c.last_place.ensures, c.if-last_place-place.false))
