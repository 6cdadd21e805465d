-- `file::show_file` meets its contract. Assumes nothing.
use native.Mathlib.Omega.{arith}
use mathlib.Core.Path.{sym, ap, ◌∙◌}
use Rattle.texts.specs.SheetText.{show_file}
use Rattle.sheet_words.specs.Held.{outcome_of}
use Rattle.sheet_words.proofs.ByIndex.{count-words}
use Rattle.sheet_text.proofs.file.show_file.Goals as goal

pub show-requires : goal.show-requires
show-requires c =
    let past = c in
    omega (arith, count-words past.args.bytes.now)

pub returns-in-Accepted : goal.returns-in-Accepted
unfolding show_file
returns-in-Accepted c =
    let b2 = c in
    let b4 = b2 in
    let b6 = b4 in
    record { text = rw (sym b6.check.ensures ∙ ap outcome_of c.in-Accepted.is) b2.show.ensures.text; short = b2.show.ensures.short }

pub returns-in-Refused : goal.returns-in-Refused
unfolding show_file
returns-in-Refused c =
    let b2 = c in
    let b5 = b2 in
    let b7 = b5 in
    record { text = rw (sym b7.check.ensures ∙ ap outcome_of c.in-Refused.is) b2.refusal_line.ensures.text; short = omega arith }
