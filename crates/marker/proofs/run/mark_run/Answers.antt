-- `run::mark_run` meets its contract. Assumes nothing.
use native.Mathlib.Omega.{arith}
use mathlib.Core.Path.{◌≡◌, sym, ap, ◌∙◌}
use lib.ListN.{length}
use Rattle.basics.proofs.ResultLaws.{same_error}
use Rattle.evaluation.specs.Tables.{leg_f}
use Rattle.evaluation.proofs.Driving.{found-closed, found-open}
use Rattle.std.specs.Prelude.{Ok, Err}
use Rattle.marker.specs.RunMark.{ground_of, walk_mark_f}
use Rattle.marker.proofs.Loading.{closed-first, over, carries}
use borrow.Author.Rules.{rules}
use Rattle.marker.proofs.run.mark_run.Goals as goal

pub returns-then-leg-gt0 : goal.returns-then-leg-gt0
returns-then-leg-gt0 c =
    let a = c.args in
    let ground = ground_of a.customers a.distances.now a.times.now a.head in
    closed-first ground a.run a.place a.calls.now _ (found-closed (leg_f ground.tables) a.calls.now _ c.first_closed-leg.ensures (omega (arith, c.if-leg-gt0.true)))

pub returns-then-not-fits : goal.returns-then-not-fits
returns-then-not-fits c =
    let a = c.args in
    let ground = ground_of a.customers a.distances.now a.times.now a.head in
    let none-closed = found-open (leg_f ground.tables) a.calls.now _ c.first_closed-leg.ensures c.if-leg-gt0.false in
    ap Err c.overload.ensures
    ∙ over ground a.run a.place a.calls.now a.demands.now none-closed c.requires.asks _ c.load_of-load.ensures.0
    (sym c.fits.ensures.value ∙ c.if-not-fits.true)

pub returns-in_err-totals : goal.returns-in_err-totals
returns-in_err-totals c =
    let a = c.args in
    let ground = ground_of a.customers a.distances.now a.times.now a.head in
    let none-closed = found-open (leg_f ground.tables) a.calls.now _ c.first_closed-leg.ensures c.if-leg-gt0.false in
    let e : c.walk.result ≡ Err c.in_err-totals.field-0.0 = search rules in
    let marked = carries ground a.run a.place a.calls.now a.demands.now none-closed c.requires.asks _ c.load_of-load.ensures.0
    (sym c.fits.ensures.value ∙ c.if-not-fits.false) in
    let by-walk = walk_mark_f ground.limits ground.fixed a.run a.place (length a.calls.now) in
    same_error c.from_residual.ensures.1 ∙ (ap by-walk (sym e ∙ c.walk.ensures) ∙ marked)

pub returns : goal.returns
returns c =
    let a = c.args in
    let ground = ground_of a.customers a.distances.now a.times.now a.head in
    let none-closed = found-open (leg_f ground.tables) a.calls.now _ c.first_closed-leg.ensures c.if-leg-gt0.false in
    let e : c.walk.result ≡ Ok c.in_ok-totals.totals = search rules in
    let marked = carries ground a.run a.place a.calls.now a.demands.now none-closed c.requires.asks _ c.load_of-load.ensures.0
    (sym c.fits.ensures.value ∙ c.if-not-fits.false) in
    let by-walk = walk_mark_f ground.limits ground.fixed a.run a.place (length a.calls.now) in
    c.mark_totals.ensures ∙ (ap by-walk (sym e ∙ c.walk.ensures) ∙ marked)
