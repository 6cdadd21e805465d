-- `show::show` meets its contract. Assumes nothing.
use native.Mathlib.Omega.{arith}
use native.Mathlib.Numerals.{add-one}
use Rattle.definitions.specs.Words.{words_of}
use Rattle.sheet_words.specs.Held.{held_word}
use Rattle.sheet_text.proofs.Showing.{set_out, turn}
use Rattle.sheet_text.proofs.show.show.Goals as goal

pub loop-i-init : goal.loop-i-init
loop-i-init c = set_out (words_of c.args.bytes.now) c.args.out.now c.start-state.result c.start-state.ensures

pub loop-i-preserved : goal.loop-i-preserved
loop-i-preserved c =
    let l = c.loop-i in
    let put = c.show_word-end.ensures in
    turn (words_of c.args.bytes.now) c.args.out.now l.state c.next-state.result l.i _ (held_word c.word_at-w.result) l.invariant c.requires (omega arith) c.word_at-w.ensures
    put.text put.short (c.next-state.ensures l.invariant.calls l.invariant.distances) (add-one l.i)
