-- `two_opt::pass` meets its contract. The loop's invariant: the first calls from i on, tried from here, end as the pass does, `prefix` is where the calls
-- before i lead, and `tried` has the distance of the run, where it is limited. Assumes nothing.
-- ---- the places on the way: from the opening, from the beginning, from the loop, and from the last calls tried
use Prim.Native.Nat.{ℕ, ◌-◌}
use native.Mathlib.Nat.{sub-zero}
use native.Mathlib.Omega.{arith}
use mathlib.Core.Path.{sym, ap, ◌∙◌}
use lib.ListN.{length}
use Rattle.evaluation.specs.Records.{Tables, limits_of}
use Rattle.cut_stops.specs.Stops.{numbers, listed}
use Rattle.two_opt.specs.Rules.{rules_of}
use Rattle.improve_base.specs.Prefix.{prefix_of}
use Rattle.improve_base.proofs.Leading.{leads-start, leads-next}
use Rattle.two_opt.specs.TwoOpt.{state, tried_all_f, pass_f}
use Rattle.two_opt.proofs.Passing.{first_more, first_done}
use Rattle.two_opt.proofs.two_opt.pass.Goals as goal
use Rattle.two_opt.proofs.two_opt.pass.Goals.{Start}

abbrev tables : Start → Tables
tables s = let a = s.args in listed (numbers a.codes.now a.figures.now) a.distances.now a.times.now a.size

pub loop-i-init : goal.loop-i-init
unfolding pass_f
loop-i-init c = (
  rw (sub-zero (length c.args.current.now - 1)),
  rw c.set_out-prefix.ensures (leads-start (tables (goal.at.loop-i-init c).Start) (limits_of c.args.rules.limits)),
  c.limited_distance-far.ensures,
)

pub loop-i-preserved : goal.loop-i-preserved
loop-i-preserved c =
    let a = c.args in
    let t = tables (goal.at.loop-i-preserved c).Start in
    let l = c.loop-i in
    let long = c.try_all-tried.auto.current in
    let all = c.try_all-tried.ensures.improved_after ∙ ap (λ (n : ℕ). tried_all_f t (rules_of a.rules) n l.i (state l.current l.tried.improved)) l.auto.current in
    let next = first_more t (rules_of a.rules) (length a.current.now) l.i (state l.current l.tried.improved) (omega arith) _ all in
    let leads =
    leads-next t (limits_of a.rules.limits) l.i l.current _ (prefix_of l.prefix) _ (omega (arith, long)) c.try_all-tried.ensures.current_unchanged l.invariant.1
    c.go_on-prefix.ensures in
    (sym next ∙ l.invariant.0, leads, c.try_all-tried.ensures.far_value_2)

pub returns : goal.returns
returns c =
    let l = c.loop-i in
    sym (first_done (tables (goal.at.returns c).Start) (rules_of c.args.rules) (length c.args.current.now) l.i _ (omega arith)) ∙ l.invariant.0
