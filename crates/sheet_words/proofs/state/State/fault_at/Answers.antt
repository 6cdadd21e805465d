-- `state::State::fault_at` meets its contract. Assumes nothing.
use mathlib.Core.Path.{refl, sym, ◌∙◌}
use Rattle.definitions.specs.Reader.{faults, fault_at}
use Rattle.theorems.proofs.InOrder.{zero-none}
use Rattle.sheet_words.specs.Held.{held_word, state_with}
use Rattle.sheet_words.proofs.state.State.fault_at.Goals as goal

pub returns-then-number-eq0 : goal.returns-then-number-eq0
unfolding fault_at
returns-then-number-eq0 c called facing told differs =
    let a = c.args in
    sym (zero-none (faults (state_with called facing a.self) a.i (held_word a.w)) refl (sym (c.number_at-number.ensures called facing told differs) ∙ c.if-number-eq0.true))
