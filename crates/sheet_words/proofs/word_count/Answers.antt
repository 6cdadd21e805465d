-- `sheet_words::word_count` meets its contract. Assumes nothing.
use Rattle.sheet_words.proofs.ByIndex.{count-words}
use Rattle.sheet_words.proofs.word_count.Goals as goal

pub returns : goal.returns
returns c = count-words c.args.bytes.now
