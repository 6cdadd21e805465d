-- `values::write_values` meets its contract. Assumes nothing.
use mathlib.Core.Path.{◌≡◌}
use Rattle.whole.specs.Whole.{fl}
use Rattle.marker.specs.declared.verdict.Verdict.TheVariants.{OtherCalls}
use Rattle.bytes_mark.proofs.Verdicts.{written-by}
use borrow.Author.Rules.{rules}
use Rattle.bytes_mark.proofs.values.write_values.Goals as goal

pub returns-in-OtherCalls : goal.returns-in-OtherCalls
unfolding fl
returns-in-OtherCalls c =
    let e : c.args.v ≡ OtherCalls c.in-OtherCalls.position = search rules in
    written-by e c.args.values.now c.write_one.new.values c.write_one.ensures
