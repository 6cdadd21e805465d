-- `values::write_call` meets its contract. Assumes nothing.
use Rattle.whole.specs.Whole.{fl}
use Rattle.bytes_mark.proofs.Verdicts.{all-five}
use Rattle.bytes_mark.proofs.values.write_call.Goals as goal

pub returns : goal.returns
unfolding fl
returns c =
    all-five c.args.values.now c.requires.values_len (fl c.args.run) (fl c.args.place) (fl c.args.customer) c.args.a c.args.b
