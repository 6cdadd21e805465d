-- `refusal::meaning` meets its contract. Assumes nothing.
use native.Mathlib.Omega.{arith}
use Rattle.texts.specs.Meaning.{meanings}
use Rattle.mark_lines.proofs.Shown.{put_as, meaning-early}
use Rattle.mark_lines.proofs.refusal.meaning.Goals as goal

pub returns-in-11 : goal.returns-in-11
unfolding meanings
returns-in-11 c =
    let word = c in
    let match = word in
    record { text = rw c.in-11.is word.word.ensures; short = omega (arith, word.word.ensures.next) }

pub returns-in-12 : goal.returns-in-12
unfolding meanings
returns-in-12 c =
    let word2 = c in
    let match = word2 in
    record { text = rw c.in-12.is word2.word-in-12.ensures; short = omega (arith, word2.word-in-12.ensures.next) }

pub returns-in-13 : goal.returns-in-13
unfolding meanings
returns-in-13 c =
    let word3 = c in
    let match = word3 in
    record { text = rw c.in-13.is word3.word-in-13.ensures; short = omega (arith, word3.word-in-13.ensures.next) }

pub returns-in-21 : goal.returns-in-21
unfolding meanings
returns-in-21 c =
    let word4 = c in
    let match = word4 in
    record { text = rw c.in-21.is word4.word-in-21.ensures; short = omega (arith, word4.word-in-21.ensures.next) }

pub returns-in-22 : goal.returns-in-22
unfolding meanings
returns-in-22 c =
    let word5 = c in
    let match = word5 in
    record { text = rw c.in-22.is word5.word-in-22.ensures; short = omega (arith, word5.word-in-22.ensures.next) }

pub returns-in-23 : goal.returns-in-23
unfolding meanings
returns-in-23 c =
    let word6 = c in
    let match = word6 in
    record { text = rw c.in-23.is word6.word-in-23.ensures; short = omega (arith, word6.word-in-23.ensures.next) }

pub returns-in_default : goal.returns-in_default
returns-in_default c =
    let meaning-to-5 = c in
    let match = meaning-to-5 in
    let start = match in
    let m = meaning-to-5.meaning_to_5.ensures in
    record { text = put_as (meaning-early start.args.number (omega arith) (omega arith) (omega arith) (omega arith) (omega arith) (omega arith)) m.text; short = m.short }
