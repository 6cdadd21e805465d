-- `words` meets its contract, by the parts that the split gives. Assumes nothing.
use Rattle.std.proofs.Common.{Some, None, refl, inl, inr}
use Rattle.std.proofs.lemmas.Str.Pattern.{split_text_parts}
use Rattle.failures.specs.Words.{number_lead}
use Rattle.failures.proofs.words.Goals as goal

pub returns-in-Some : goal.returns-in-Some
returns-in-Some c =
    let s = c.in-Some in
    inl (s.field-0-1.now, split_text_parts number_lead c.args.said.now (Some (s.words, s.field-0-1)) s.ensures.cases)

pub returns-in-None : goal.returns-in-None
returns-in-None c = inr (refl, split_text_parts number_lead c.args.said.now None c.in-None.ensures.cases)
