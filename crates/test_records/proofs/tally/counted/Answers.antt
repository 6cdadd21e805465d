-- `tally::counted` meets its contract. Assumes nothing.
use Rattle.std.proofs.Common.{rules}
use Rattle.test_records.specs.Tally.{counted_with}
use Rattle.test_records.proofs.tally.counted.Goals as goal

pub returns : goal.returns
unfolding counted_with
returns c = search rules
