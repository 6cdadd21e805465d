-- `values::write_leg` meets its contract. Assumes nothing.
use Rattle.whole.specs.Whole.{fl}
use Rattle.bytes_mark.proofs.Verdicts.{two}
use Rattle.bytes_mark.proofs.values.write_leg.Goals as goal

pub returns : goal.returns
unfolding fl
returns c =
    two c.args.values.now c.requires.values_len (fl c.args.run) (fl c.args.leg)
