-- `read::read` meets its contract. Assumes nothing.
use native.Mathlib.Omega.{arith}
use native.Mathlib.Nat.{mul-le-mul}
use mathlib.Core.Path.{◌≡◌, sym, ap, ◌∙◌}
use borrow.Author.Rules.{rules}
use Rattle.sheet_words.specs.Held.{outcome_of}
use Rattle.sheet_words.specs.declared.check.Checked.TheVariants.{Accepted, Refused}
use Rattle.models.specs.Records.{head_of}
use Rattle.sheet_read.proofs.Reading.{few-places, read-refused, read-accepted}
use Rattle.sheet_read.proofs.read.read.Goals as goal

pub returns-in-Refused : goal.returns-in-Refused
returns-in-Refused c =
    let checked = c in
    let d = checked.check in
    let e : d.result ≡ Refused c.in-Refused.number c.in-Refused.word = search rules in
    read-refused checked.args.bytes.now _ _ (sym (ap outcome_of e) ∙ d.ensures)

pub returns-in-Accepted : goal.returns-in-Accepted
returns-in-Accepted c =
    let counted = c in
    let headed = counted in
    let checked = headed in
    let d = checked.check in
    let e : d.result ≡ Accepted = search rules in
    let bytes = checked.args.bytes.now in
    read-accepted bytes (sym (ap outcome_of e) ∙ d.ensures) (head_of headed.head_of-head.result) headed.head_of-head.ensures _ _
    counted.count_values.ensures c.count_values-in-Accepted.ensures

pub overflow_mul-result : goal.overflow_mul-result
overflow_mul-result c =
    let d = c.check in
    let e : d.result ≡ Accepted = search rules in
    let bytes = c.args.bytes.now in
    let few = few-places bytes (sym (ap outcome_of e) ∙ d.ensures) (head_of c.head_of-head.result) c.head_of-head.ensures in
    omega (arith, mul-le-mul few few)
