-- `read::finished` meets its contract. Assumes nothing.
use mathlib.Core.Path.{ap, subst, ◌∙◌}
use Rattle.texts.specs.CuttingText.{bad_at}
use Rattle.cutting_text.specs.declared.read.TextSoFar.{TextSoFar}
use Rattle.std.specs.Prelude.{Option}
use Rattle.cutting_text.specs.TextSoFar.{state_of, stepped_of, More}
use Rattle.cutting_text.proofs.Stepped.{known, ends_read, ends_stuck}
use Rattle.cutting_text.proofs.read.finished.Goals as goal

pub returns-in_default : goal.returns-in_default
returns-in_default c =
    let far-past-a = c in
    let past-a = far-past-a in
    let far-a = past-a in
    let a = far-a.args in
    let s = state_of a.r a.calls.now a.ends.now a.places.now in
    let past-n = c in
    let n = past-n.next in
    let told = known (λ (t : (Option TextSoFar)). stepped_of t n.new.calls n.new.ends n.new.places) c.in_default.is n.ensures.said in
    record { said = ap (bad_at a.line a.column) (c.wanted.ensures s) ∙ ends_stuck a.line a.column s told; few = tt }

pub returns : goal.returns
returns c =
    let far-past-a = c in
    let past-a = far-past-a in
    let far-a = past-a in
    let a = far-a.args in
    let s = state_of a.r a.calls.now a.ends.now a.places.now in
    let past-n = c in
    let n = past-n.next in
    let calls = n.new.calls in
    let ends = n.new.ends in
    let places = n.new.places in
    let told = known (λ (t : (Option TextSoFar)). stepped_of t calls ends places) c.in-Some.is n.ensures.said in
    record { said = ends_read a.line a.column s (state_of c.in-Some.q calls ends places) told; few = subst (λ (t : (Option TextSoFar)). More 1 1 a.r t) c.in-Some.is n.ensures.few }
