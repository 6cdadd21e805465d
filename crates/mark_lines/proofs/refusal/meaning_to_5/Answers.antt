-- `refusal::meaning_to_5` meets its contract. Assumes nothing.
use native.Mathlib.Omega.{arith}
use Rattle.listing_lines.proofs.Putting.{nothing}
use Rattle.texts.specs.Meaning.{meanings}
use Rattle.mark_lines.specs.Meanings.{meaning_to5}
use Rattle.mark_lines.proofs.Shown.{put_as, no-meaning}
use Rattle.mark_lines.proofs.refusal.meaning_to_5.Goals as goal

pub returns-in-1 : goal.returns-in-1
unfolding meaning_to5 meanings
returns-in-1 c =
    let word = c in
    let match = word in
    record { text = rw c.in-1.is word.word.ensures; short = omega (arith, word.word.ensures.next) }

pub returns-in-2 : goal.returns-in-2
unfolding meaning_to5 meanings
returns-in-2 c =
    let word2 = c in
    let match = word2 in
    record { text = rw c.in-2.is word2.word-in-2.ensures; short = omega (arith, word2.word-in-2.ensures.next) }

pub returns-in-3 : goal.returns-in-3
unfolding meaning_to5 meanings
returns-in-3 c =
    let word3 = c in
    let match = word3 in
    record { text = rw c.in-3.is word3.word-in-3.ensures; short = omega (arith, word3.word-in-3.ensures.next) }

pub returns-in-4 : goal.returns-in-4
unfolding meaning_to5 meanings
returns-in-4 c =
    let word4 = c in
    let match = word4 in
    record { text = rw c.in-4.is word4.word-in-4.ensures; short = omega (arith, word4.word-in-4.ensures.next) }

pub returns-in-5 : goal.returns-in-5
unfolding meaning_to5 meanings
returns-in-5 c =
    let word5 = c in
    let match = word5 in
    record { text = rw c.in-5.is word5.word-in-5.ensures; short = omega (arith, word5.word-in-5.ensures.next) }

pub returns-in_default : goal.returns-in_default
returns-in_default c =
    let start = c in
    let a = start.args in
    record { text = put_as (no-meaning a.number (omega arith) (omega arith) (omega arith) (omega arith) (omega arith)) (nothing a.at a.out.now); short = omega arith }
