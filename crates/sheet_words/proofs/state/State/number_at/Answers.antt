-- `state::State::number_at` meets its contract. Assumes nothing.
use mathlib.Core.Path.{refl, ◌∙◌}
use mathlib.Core.Bool.{not}
use mathlib.Core.List.{[], ◌∷◌}
use Rattle.basics.proofs.TestLaws.{by-test}
use Rattle.definitions.specs.Reader.{may_stand, in_range, pair_falls, among, faults, fault_at}
use Rattle.refuse_lists.specs.First.{in_order}
use Rattle.refuse_lists.proofs.Numbers.{by_tests}
use Rattle.sheet_words.specs.Held.{held_word, state_with}
use Rattle.sheet_words.proofs.state.State.number_at.Goals as goal

pub returns : goal.returns
unfolding fault_at may_stand in_range pair_falls in_order
returns c called facing told differs =
    -- behind each test, from the last
    let c3 = c in
    let c2 = c3 in
    let c1 = c2 in
    let c11 = c1 in
    let a = c11.args in
    let w = held_word a.w in
    let s = state_with called facing a.self in
    by-test (among w.kind (may_stand s))
    (λ t. by_tests (faults s a.i w) c.first_fit.result _ _ c.first_fit.ensures refl
    (λ i.
    not (c11.may_stand.ensures i)
    ∷ not (c1.in_range.ensures i)
    ∷ told i
    ∷ c2.pair_falls.ensures i
    ∷ differs t i
    ∷ c3.wrong_count.ensures i
    ∷ []))
    -- a word that may not stand is refused whatever else it is
    (λ f. rw f (c.first_fit.ensures ∙ rw (c11.may_stand.ensures ∙ f)))
