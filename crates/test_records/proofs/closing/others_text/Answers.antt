-- `closing::others_text` meets its contract. Assumes nothing.
use native.Mathlib.Omega.{arith}
use mathlib.Core.Path.{sym, ◌∙◌}
use Rattle.listing_lines.proofs.Putting.{joined}
use Rattle.test_records.proofs.closing.others_text.Goals as goal

pub returns : goal.returns
returns c =
    record { text = rw (sym c.as_it_should.ensures ∙ c.if-as_it_should.false) (joined c.spaced-end.ensures.text c.word-2.ensures (omega arith)); short = omega arith }
