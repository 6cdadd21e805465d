-- `state::State::pair_falls` meets its contract. Assumes nothing.
use mathlib.Core.Path.{sym, ◌∙◌}
use Rattle.definitions.specs.Reader.{pair_falls}
use Rattle.sheet_words.proofs.state.State.pair_falls.Goals as goal

pub returns-then-ends_pair : goal.returns-then-ends_pair
unfolding pair_falls
returns-then-ends_pair c = rw (sym c.ends_pair.ensures ∙ c.if-ends_pair.true)

pub returns-else-ends_pair : goal.returns-else-ends_pair
unfolding pair_falls
returns-else-ends_pair c = rw (c.if-ends_pair.false, sym c.ends_pair.ensures ∙ c.if-ends_pair.false)
