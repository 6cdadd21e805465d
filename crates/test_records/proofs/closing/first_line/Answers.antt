-- `closing::first_line` meets its contract. Assumes nothing.
use native.Mathlib.Omega.{arith}
use Rattle.listing_lines.proofs.Putting.{nothing, joined}
use borrow.Author.Tests.{eq-eqb, ne_eqb}
use Rattle.test_records.proofs.closing.first_line.Goals as goal

pub returns-then-first-eq0 : goal.returns-then-first-eq0
returns-then-first-eq0 c =
    record { text = rw (eq-eqb c.args.first 0 c.if-first-eq0.true) (nothing c.args.at c.args.out.now); short = omega arith }

pub returns : goal.returns
returns c =
    record { text = rw (ne_eqb c.args.first 0 c.if-first-eq0.false) (joined c.numbered-end.ensures.text c.word.ensures (omega arith)); short = omega arith }
