-- `sheet_words::left_over` meets its contract. Assumes nothing.
use Rattle.sheet_words.proofs.ByIndex.{rest-left}
use Rattle.sheet_words.proofs.left_over.Goals as goal

pub returns : goal.returns
returns c = rest-left c.args.bytes.now
