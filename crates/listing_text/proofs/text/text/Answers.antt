-- `text::text` meets its contract. Assumes nothing.
use Prim.Native.Nat.{ℕ}
use native.Mathlib.Omega.{arith}
use mathlib.Core.Path.{◌≡◌, sym, ap, subst, ◌∙◌}
use mathlib.Core.List.{List}
use Rattle.sheet_read.specs.declared.read.Reading.TheVariants.{Refused}
use Rattle.sheet_read.specs.Summary.{held_summary}
use Rattle.listing_lines.specs.Put.{Put}
use Rattle.listing_text.proofs.Listed.{is-refused}
use borrow.Author.Rules.{rules}
use Rattle.listing_text.proofs.text.text.Goals as goal

pub returns-in-Refused : goal.returns-in-Refused
returns-in-Refused c =
    let x = c in
    let n = x in
    let r = n in
    let a = r.args in
    let e : r.read.result ≡ Refused c.in-Refused.number c.in-Refused.word = search rules in
    let h = is-refused a.bytes.now c.in-Refused.number c.in-Refused.word (sym (ap held_summary e) ∙ r.read.ensures) in
    record { text = subst (λ (l : List ℕ). Put 0 l a.out.now x.refusal_line.new.out x.refusal_line.result) h x.refusal_line.ensures.text; short = omega arith }
