-- `seen` meets its contract. Assumes nothing.
use native.Mathlib.Omega.{arith}
use mathlib.Core.Path.{◌∙◌}
use Rattle.test_replay.proofs.Asked.{no_kind, by_kind}
use Rattle.test_replay.proofs.seen.Goals as goal

pub returns-then-question-eq0 : goal.returns-then-question-eq0
returns-then-question-eq0 c = no_kind c.args.question.now c.args.recorded.now (omega arith)

pub returns : goal.returns
returns c =
    rw (c.alike.ensures, c.one_of-wrong.ensures) at c.seen_of.ensures ∙ by_kind c.args.question.now c.args.recorded.now (omega arith)
