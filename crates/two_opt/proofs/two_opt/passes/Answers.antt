-- `two_opt::passes` meets its contract. The loop's invariant: the passes that are left, from here, end as all of them do. Assumes nothing.
-- ---- the places on the way: from the opening, from the loop, and from a pass
use native.Mathlib.Omega.{arith}
use mathlib.Core.Path.{sym, ap, ◌∙◌}
use Rattle.evaluation.specs.Records.{Tables}
use Rattle.cut_stops.specs.Stops.{numbers, listed}
use Rattle.two_opt.specs.Rules.{rules_of}
use Rattle.two_opt.specs.TwoOpt.{state}
use Rattle.two_opt.proofs.Passing.{pass-more, pass-last, no-pass}
use Rattle.two_opt.proofs.two_opt.passes.Goals as goal
use Rattle.two_opt.proofs.two_opt.passes.Goals.{Start}

abbrev tables : Start → Tables
tables s = let a = s.args in listed (numbers a.codes.now a.figures.now) a.distances.now a.times.now a.size

pub returns-then-not-pass : goal.returns-then-not-pass
returns-then-not-pass c =
    let l = c.loop in
    let last = ap (state _) (sym c.if-not-pass.true) ∙ c.pass.ensures in
    sym (pass-last (tables (goal.at.returns-then-not-pass c).Start) (rules_of c.args.rules) l.current _ _ (omega arith) last) ∙ l.invariant

pub loop-preserved : goal.loop-preserved
loop-preserved c =
    let l = c.loop in
    let more = ap (state _) (sym c.if-not-pass.false) ∙ c.pass.ensures in
    sym (pass-more (tables (goal.at.loop-preserved c).Start) (rules_of c.args.rules) l.current _ _ _ (omega arith) more) ∙ l.invariant

pub returns : goal.returns
returns c =
    let l = c.loop in
    sym (no-pass (tables (goal.at.returns c).Start) (rules_of c.args.rules) l.current _ (omega arith)) ∙ l.invariant
