-- `visit::enter` meets its contract: without a window, in time, late without a penalty, or late with one. Assumes nothing.
use mathlib.Core.Path.{◌≡◌, sym, ◌∙◌}
use mathlib.Core.Bool.{true}
use Rattle.std.specs.Prelude.{Option, None, Some}
use lib.Ieee.{Float, binary64, add, sub, mul}
use Rattle.models.specs.declared.customer.TimeWindow.{TimeWindow}
use Rattle.models.specs.Records.{window_of, opening_of}
use Rattle.models.specs.Window.{late_f}
use Rattle.whole.specs.Larger.{larger_f}
use Rattle.cut_runs.specs.Runs.{charge_f, enter_f}
use borrow.Author.Rules.{rules}
use Rattle.cut_runs.proofs.visit.enter.Goals as goal

module _ (opening : (Option TimeWindow)) (penalty : (Option Float)) (w : TimeWindow) (time late : Float) (windowed : opening ≡ Some w) (is-late : late_f (window_of w) time ≡ true) where
  -- it ends the run without a penalty
  late-shut : penalty ≡ None → None ≡ enter_f (opening_of opening) penalty time late
  unfolding enter_f charge_f
  late-shut hard = rw (windowed, is-late, hard)

  -- and costs with one
  late-paid : (price start : Float) → penalty ≡ Some price → start ≡ larger_f time w.ready
      → Some (record { time = start; late_cost = add binary64 late (mul binary64 price (sub binary64 time w.due)) })
      ≡ enter_f (opening_of opening) penalty time late
  unfolding enter_f charge_f
  late-paid price start soft waits = rw (windowed, is-late, soft, waits)

pub returns-in_default : goal.returns-in_default
unfolding enter_f
returns-in_default c = let e : c.args.opening ≡ None = search rules in rw e

pub returns-then-not-is_violated : goal.returns-then-not-is_violated
unfolding enter_f charge_f
returns-then-not-is_violated c =
    let v = c in
    let o = v in
    let e : o.args.opening ≡ Some o.in-Some.window = search rules in
    rw (e, sym v.is_violated.ensures ∙ c.if-not-is_violated.true) (rw (← v.larger-start.ensures))

pub returns-in-None : goal.returns-in-None
returns-in-None c =
    let b = c in
    let o = b in
    let s = o in
    late-shut s.args.opening s.args.penalty o.in-Some.window s.args.time s.args.late_cost (search rules)
    (sym b.is_violated.ensures ∙ b.if-not-is_violated.false) (search rules)

pub returns-in-Some-penalty : goal.returns-in-Some-penalty
returns-in-Some-penalty c =
    let p = c in
    let b = p in
    let o = b in
    let s = o in
    late-paid s.args.opening s.args.penalty o.in-Some.window s.args.time s.args.late_cost (search rules)
    (sym b.is_violated.ensures ∙ b.if-not-is_violated.false) p.in-Some-penalty.p _ (search rules) b.larger-start.ensures
