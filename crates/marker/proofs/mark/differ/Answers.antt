-- `mark::differ` meets its contract. Assumes nothing.
use mathlib.Core.Path.{refl, sym, ◌∙◌}
use borrow.Author.Rules.{rules}
use Rattle.std.proofs.Common.{tests}
use Rattle.std.specs.List.{zip}
use Rattle.std.proofs.lemmas.Iterator.{YieldsList-from_slice, YieldsList-from_zip}
use Rattle.std.proofs.lemmas.Iterator.Search.{position_from_yields_List}
use Rattle.std.proofs.lemmas.Iterator.Adapters.{position_from-zero}
use Rattle.marker.proofs.Calls.{apart, differ-here, differ-none, differ-ended}
use Rattle.marker.proofs.mark.differ.Goals as goal

pub returns-in-Some : goal.returns-in-Some
returns-in-Some c =
    let a = c.args in
    let at_call =
    position_from_yields_List apart c.position.new.self _ _ c.position.ensures.ran
    (YieldsList-from_zip (YieldsList-from_slice a.calls.now cc) (YieldsList-from_slice a.served.now cc)) (λ x b q k. search (rules, tests)) in
    let first = sym (at_call ∙ position_from-zero apart (zip a.calls.now a.served.now)) in
    sym (differ-here 0 1 refl a.calls.now a.served.now _ (first ∙ c.in-Some.is))

pub returns-then-calls-served : goal.returns-then-calls-served
returns-then-calls-served c =
    let a = c.args in
    let at_call =
    position_from_yields_List apart c.position.new.self _ _ c.position.ensures.ran
    (YieldsList-from_zip (YieldsList-from_slice a.calls.now cc) (YieldsList-from_slice a.served.now cc)) (λ x b q k. search (rules, tests)) in
    let first = sym (at_call ∙ position_from-zero apart (zip a.calls.now a.served.now)) in
    sym (differ-none 0 1 refl a.calls.now a.served.now (first ∙ c.in_default.is) c.if-calls-served.true)

pub returns-else-calls-served : goal.returns-else-calls-served
returns-else-calls-served c =
    let a = c.args in
    let at_call =
    position_from_yields_List apart c.position.new.self _ _ c.position.ensures.ran
    (YieldsList-from_zip (YieldsList-from_slice a.calls.now cc) (YieldsList-from_slice a.served.now cc)) (λ x b q k. search (rules, tests)) in
    let first = sym (at_call ∙ position_from-zero apart (zip a.calls.now a.served.now)) in
    rw c.fewer.ensures (sym (differ-ended 0 1 refl a.calls.now a.served.now (first ∙ c.in_default.is) c.if-calls-served.false))
