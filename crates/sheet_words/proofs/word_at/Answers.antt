-- `sheet_words::word_at` meets its contract. Assumes nothing.
use native.Mathlib.Omega.{arith}
use mathlib.Core.Path.{sym, ap, ◌∙◌}
use Rattle.definitions.specs.Words.{word_of}
use Rattle.sheet_words.specs.Held.{no_word}
use Rattle.sheet_words.proofs.ByIndex.{count-words, nth-word, no-word}
use Rattle.sheet_words.proofs.word_at.Goals as goal

pub returns-then-bytes-i : goal.returns-then-bytes-i
returns-then-bytes-i c = let a = c.args in no-word a.bytes.now a.i no_word (omega arith)

pub returns : goal.returns
returns c =
    let at = c in
    let a = at.args in
    ap word_of c.little_endian-n.ensures ∙ sym (nth-word a.bytes.now a.i no_word (omega (arith, count-words a.bytes.now)))
