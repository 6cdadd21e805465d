-- `two_opt::try_all` meets its contract. The loop's invariant: the last calls from j on, tried from here, end as all of them do, the calls before i have
-- stayed, `into` is the leg into call i, and `turned` what turning the calls from i up to j changes in their own legs;
-- and `known` has the distance of the run, where it is limited. Assumes nothing.
-- ---- the places on the way: from the opening, from the first test, from the loop, and from what a reversal changes
-- what the test says of the reversal
use Prim.Native.Nat.{suc, ◌-◌}
use native.Mathlib.Numerals.{add-one}
use native.Mathlib.Omega.{arith}
use mathlib.Core.Path.{◌≡◌, refl, sym, ◌∙◌}
use lib.ListN.{length, take}
use Rattle.basics.proofs.TestLaws.{both}
use Rattle.basics.specs.Lists.{count}
use Rattle.distance.specs.Lookup.{number_f}
use Rattle.evaluation.specs.Records.{Tables, limits_of}
use Rattle.cut_stops.specs.Stops.{numbers, listed}
use Rattle.two_opt.specs.Rules.{rules_of}
use Rattle.improve_base.specs.Prefix.{prefix_of}
use Rattle.improve_base.proofs.Leading.{not-feasible}
use Rattle.two_opt.specs.TwoOpt.{state, gains_f}
use Rattle.two_opt.proofs.Trying.{kept, gains-asked}
use Rattle.two_opt.proofs.Passing.{none-taken, each-passed, each-made, each-done}
use Rattle.two_opt.proofs.two_opt.try_all.Goals as goal
use Rattle.two_opt.proofs.two_opt.try_all.Goals.{After-gains, Start}

abbrev tables : Start → Tables
tables s = let a = s.args in listed (numbers a.codes.now a.figures.now) a.distances.now a.times.now a.size

gain : (c : After-gains) → let l = c.loop-j in let a = c.args in
    gains_f (number_f a.distances.now a.size) (rules_of a.rules) a.i l.j l.current ≡ c.gains.result
gain c =
    let a = c.args in
    let l = c.loop-j in
    gains-asked (number_f a.distances.now a.size) (rules_of a.rules) a.i l.j l.current _ c.two_opt_delta-delta.ensures _ c.gains.ensures

pub returns-then-no_run : goal.returns-then-no_run
returns-then-no_run c =
    let a = c.args in
    let t = tables (goal.at.returns-then-no_run c).Start in
    let n = both _ _ (sym c.no_run.ensures ∙ c.if-no_run.true) in
    let run = a.current.now in
    let last = count (suc a.i) (length run - suc a.i) in
    let none =
    none-taken t (rules_of a.rules) a.i run a.tried.improved n.0
    (λ rest. not-feasible t (limits_of a.rules.limits) (take a.i run) rest (prefix_of a.prefix) n.1 c.requires.fact) last in
    record { improved_after = sym none; far_value_2 = c.requires.far_value; current_unchanged = refl }

pub loop-j-preserved-then-not-gains : goal.loop-j-preserved-then-not-gains
loop-j-preserved-then-not-gains c =
    let a = c.args in
    let l = c.loop-j in
    let no = gain (goal.at.loop-j-preserved-then-not-gains c).After-gains ∙ c.if-not-gains.true in
    let passed = each-passed (tables (goal.at.loop-j-preserved-then-not-gains c).Start) (rules_of a.rules) a.i (length a.current.now) l.j (state l.current l.known.improved) (omega arith) no in
    (sym passed ∙ l.invariant.0, l.invariant.1, l.invariant.2, c.turned_on-turned.ensures ∙ rw (add-one l.j), l.invariant.4)

pub loop-j-preserved : goal.loop-j-preserved
loop-j-preserved c =
    let a = c.args in
    let t = tables (goal.at.loop-j-preserved c).Start in
    let l = c.loop-j in
    let y = c.reverse_if_allowed-known.ensures.improved_after in
    let yes = gain (goal.at.loop-j-preserved c).After-gains ∙ c.if-not-gains.false in
    let next = each-made t (rules_of a.rules) a.i (length a.current.now) l.j (state l.current l.known.improved)
    (omega arith) yes _ y in
    let stay = kept t (rules_of a.rules) a.i l.j l.current l.known.improved (omega arith) _ _ y in
    (sym next ∙ l.invariant.0, stay ∙ l.invariant.1, c.leg_into-into-in-loop-j.ensures, c.turned_between-turned-in-loop-j.ensures, c.reverse_if_allowed-known.ensures.far_value)

pub returns : goal.returns
returns c =
    let a = c.args in
    let l = c.loop-j in
    let done = each-done (tables (goal.at.returns c).Start) (rules_of a.rules) a.i (length a.current.now) l.j _ (omega arith) in
    record { improved_after = sym done ∙ l.invariant.0; far_value_2 = l.invariant.4; current_unchanged = l.invariant.1 }
