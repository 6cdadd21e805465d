-- `values::write_load` meets its contract. Assumes nothing.
use Rattle.whole.specs.Whole.{fl}
use Rattle.bytes_mark.proofs.Verdicts.{three}
use Rattle.bytes_mark.proofs.values.write_load.Goals as goal

pub returns : goal.returns
unfolding fl
returns c =
    three c.args.values.now c.requires.values_len (fl c.args.run) (fl c.args.load) (fl c.args.capacity)
